pub mod Spelling
pub mod Laws
pub mod Both
pub mod Choices
pub mod Lists
pub mod Growth
pub mod Rights
