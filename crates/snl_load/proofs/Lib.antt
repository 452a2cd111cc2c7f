pub mod Names
pub mod Ends
pub mod Listed
pub mod Pieces
pub mod Clauses
pub mod Sets
pub mod Meant
pub mod Declared
