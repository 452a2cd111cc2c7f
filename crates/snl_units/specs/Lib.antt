pub mod Exact
pub mod Examples
pub mod Values
