pub mod Bases
pub mod Walks
