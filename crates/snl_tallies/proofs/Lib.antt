pub mod LineLaws
pub mod TextLaws
pub mod ReadLaws
pub mod FileExamples
