pub mod CureLaws
pub mod ExampleLaws
pub mod NoCureLaws
pub mod ReachLaws
