pub mod Agreement
pub mod Collected
pub mod FirstNames
pub mod Named
pub mod Vocabulary
