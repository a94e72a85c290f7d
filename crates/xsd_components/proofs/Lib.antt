pub mod Declared
pub mod Kept
