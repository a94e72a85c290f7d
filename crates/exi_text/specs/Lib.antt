pub mod Literals
pub mod Spelled
pub mod Words
