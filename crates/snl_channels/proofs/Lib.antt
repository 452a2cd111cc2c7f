pub mod MacroLaws
pub mod LinkLaws
pub mod AppendLaws
pub mod FactLaws
