pub mod Arguments
pub mod Faults
pub mod Jobs
pub mod Parses
pub mod Programs
