pub mod Circles
pub mod Levels
pub mod Searches
pub mod Laws
