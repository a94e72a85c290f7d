pub mod TypeWildcards
pub mod Sources
pub mod Told
pub mod Wilds
