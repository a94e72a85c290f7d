pub mod Words
pub mod Fronts
pub mod BothWays
pub mod Items
pub mod Whole
mod Worked
