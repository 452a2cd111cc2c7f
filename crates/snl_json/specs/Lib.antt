pub mod Kinds
pub mod Rows
pub mod Expressions
pub mod Declarations
pub mod Statements
pub mod Functions
pub mod Definitions
pub mod Programs
