pub mod Rows
pub mod ShapeLaws
pub mod Marked
