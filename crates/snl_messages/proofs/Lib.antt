pub mod EntryLaws
pub mod FirstLaws
pub mod FoundLaws
pub mod GivenLaws
pub mod ListLaws
pub mod MemberLaws
pub mod OrderLaws
