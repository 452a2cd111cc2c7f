pub mod Comes
pub mod Tells
pub mod Walks
pub mod Stepping
pub mod Wakes
pub mod Loaded
pub mod Examples
pub mod Plans
