pub mod WayLaws
pub mod MarkLaws
pub mod UnmarkedLaws
pub mod TargetLaws
pub mod StateLaws
