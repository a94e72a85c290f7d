pub mod Telling
pub mod Levels
pub mod Walking
pub mod Keeping
pub mod Builds
