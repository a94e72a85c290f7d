pub mod Same
pub mod Writing
