pub mod Words
pub mod Heard
pub mod Printed
pub mod Examples
