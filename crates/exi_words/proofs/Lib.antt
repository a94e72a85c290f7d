pub mod Few
pub mod Taken
pub mod Sound
pub mod Rows
