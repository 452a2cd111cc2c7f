pub mod Commands
pub mod Examples
pub mod Options
pub mod Reads
