pub mod Fitting
pub mod Wanted
pub mod Sought
pub mod Choices
