pub mod Bases
pub mod Contents
pub mod Uses
pub mod Shown
pub mod Told
pub mod Walks
