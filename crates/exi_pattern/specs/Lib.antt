pub mod Sets
pub mod Joins
pub mod Escapes
pub mod Groups
pub mod Quantities
pub mod Patterns
pub mod Readings
