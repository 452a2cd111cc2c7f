pub mod spelling
pub mod grammar
pub mod code
