pub mod Steps
pub mod DelayLaws
