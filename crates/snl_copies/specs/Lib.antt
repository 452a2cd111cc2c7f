pub mod Code
pub mod Copies
pub mod Tests
pub mod Examples
