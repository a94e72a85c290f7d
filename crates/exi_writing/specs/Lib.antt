pub mod Pieces
pub mod Pruned
pub mod Contents
pub mod OneEvent
pub mod Runs
pub mod Sound
pub mod Laws
