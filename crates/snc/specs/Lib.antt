pub mod Judging
pub mod Answered
pub mod Outcomes
pub mod Texts
pub mod ReportSteps
pub mod Runs
