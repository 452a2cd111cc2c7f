pub mod Written
pub mod Events
