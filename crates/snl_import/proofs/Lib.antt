pub mod CommentLaws
pub mod LineLaws
pub mod TakenLaws
pub mod TraceLaws
pub mod WrittenLaws
