pub mod Entries
pub mod Forms
pub mod Lists
pub mod Options
pub mod Parts
pub mod States
pub mod Wholes
