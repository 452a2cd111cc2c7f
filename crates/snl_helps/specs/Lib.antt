pub mod Examples
pub mod Helps
pub mod Names
