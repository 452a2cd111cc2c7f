pub mod Accepted
pub mod Examples
pub mod Findings
pub mod Waits
