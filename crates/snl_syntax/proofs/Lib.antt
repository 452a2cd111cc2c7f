pub mod GroupLaws
pub mod Rows
pub mod StatementRows
