pub mod Own
pub mod Forgotten
pub mod Examples
pub mod Accepted
