pub mod EventLaws
pub mod Rows
