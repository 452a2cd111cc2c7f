pub mod Arithmetic
pub mod Examples
