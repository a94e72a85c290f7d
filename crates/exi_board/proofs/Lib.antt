pub mod Sums
pub mod Keeps
pub mod Allowed
pub mod Tries
pub mod Finds
pub mod Starts
pub mod Whole
pub mod Works
