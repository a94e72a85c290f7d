pub mod Spaces
pub mod Binaries
pub mod Values
pub mod Laws
