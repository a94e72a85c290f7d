pub mod Document
pub mod Reading
pub mod Writing
pub mod Spelled
pub mod Laws
