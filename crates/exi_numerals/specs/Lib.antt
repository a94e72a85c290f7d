pub mod Integers
pub mod Decimals
pub mod Floats
pub mod Laws
