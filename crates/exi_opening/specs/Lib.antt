pub mod Header
pub mod Openings
