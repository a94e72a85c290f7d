pub mod Tables
pub mod Reached
