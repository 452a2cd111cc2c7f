pub mod Examples
pub mod Names
pub mod Outline
pub mod Shapes
pub mod Told
pub mod Reached
