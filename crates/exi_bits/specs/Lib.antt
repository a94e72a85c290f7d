pub mod Bits
pub mod Unsigned
pub mod Repeat
pub mod Written
pub mod Words
pub mod Laws
pub mod Widths
