pub mod Documents
pub mod Counts
pub mod Laws
pub mod Words
pub mod Bases
