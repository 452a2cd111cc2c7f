pub mod Comments
pub mod Counts
pub mod Examples
pub mod Opening
pub mod Taken
pub mod Trace
pub mod Written
