pub mod Parts
pub mod Fronts
pub mod Kept
pub mod Plain
pub mod Worked
