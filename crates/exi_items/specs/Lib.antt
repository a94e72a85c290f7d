pub mod Charges
pub mod Fronts
pub mod Laws
pub mod Spellings
