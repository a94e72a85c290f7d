pub mod Restrictions
pub mod Entries
