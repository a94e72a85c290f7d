pub mod Tables
pub mod Steps
pub mod Names
pub mod Writes
pub mod SpelledSteps
pub mod Gathered
pub mod Written
pub mod NoPrefix
