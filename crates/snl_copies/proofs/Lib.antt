pub mod CodeLaws
pub mod CopyLaws
pub mod UnwrittenLaws
pub mod ExampleLaws
pub mod Rows
