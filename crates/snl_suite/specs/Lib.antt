pub mod Agreement
pub mod Fitting
pub mod Escaped
pub mod Examples
