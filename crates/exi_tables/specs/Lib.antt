pub mod Values
pub mod Partitions
pub mod Growth
pub mod Kept
pub mod Spots
pub mod Added
