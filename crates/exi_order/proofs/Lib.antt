pub mod ByPlaces
pub mod InOrder
pub mod Numbering
pub mod Stable
pub mod Texts
