pub mod WalkLaws
pub mod FunctionLaws
pub mod BlockLaws
pub mod ProgramLaws
pub mod VariableLaws
pub mod Steps
pub mod BindingLaws
pub mod NameLaws
