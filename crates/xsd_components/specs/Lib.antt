pub mod Globals
pub mod References
