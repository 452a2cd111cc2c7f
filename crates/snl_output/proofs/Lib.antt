pub mod Adding
pub mod Cutting
pub mod Doing
pub mod Laid
pub mod Parts
pub mod Rows
pub mod Writing
pub mod Examples
