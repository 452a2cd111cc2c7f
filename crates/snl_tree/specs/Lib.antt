pub mod reading
pub mod Answers
