pub mod Kinds
pub mod Counted
