pub mod Counting
pub mod Sums
pub mod CoverRuns
pub mod RunnerLaws
pub mod Texts
