pub mod Sorting
pub mod Keys
