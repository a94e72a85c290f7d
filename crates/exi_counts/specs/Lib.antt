pub mod Counts
pub mod Inner
pub mod Kinds
pub mod Sizes
