pub mod Bounds
pub mod Plain
