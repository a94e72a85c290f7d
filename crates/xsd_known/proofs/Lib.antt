pub mod Bare
pub mod Answered
pub mod Told
pub mod ToldCompiled
pub mod ToldCounts
pub mod ToldNames
pub mod ToldProtos
