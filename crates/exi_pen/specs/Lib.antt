pub mod Pages
pub mod Told
pub mod Values
pub mod Steps
