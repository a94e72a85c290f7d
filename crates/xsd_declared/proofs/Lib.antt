pub mod Words
pub mod Heads
pub mod Walked
pub mod Listed
