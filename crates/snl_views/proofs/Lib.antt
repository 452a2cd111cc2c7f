pub mod Awaiting
pub mod ByLines
pub mod Still
pub mod Silent
pub mod Ending
pub mod RunAnswers
pub mod Answered
