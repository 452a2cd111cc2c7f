pub mod Cures
pub mod Examples
pub mod Reaching
