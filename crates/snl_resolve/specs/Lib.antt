pub mod Seen
pub mod FunctionTables
pub mod Names
pub mod Laws
pub mod Examples
pub mod FunctionExamples
