pub mod RightLaws
pub mod CertainLaws
