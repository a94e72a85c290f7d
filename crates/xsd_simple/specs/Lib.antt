pub mod Simple
pub mod Kept
