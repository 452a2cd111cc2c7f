pub mod Counts
pub mod Heads
pub mod Examples
