pub mod Right
pub mod Certain
