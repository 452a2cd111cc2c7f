pub mod Answers
pub mod Awaits
pub mod Laws
pub mod Prepared
pub mod Staged
