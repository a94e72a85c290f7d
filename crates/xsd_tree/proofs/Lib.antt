pub mod Events
pub mod Names
pub mod Tags
pub mod Reached
