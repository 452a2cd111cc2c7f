pub mod FormLaws
pub mod ConstantLaws
pub mod TableLaws
pub mod NumberLaws
pub mod ListLaws
pub mod SignLaws
