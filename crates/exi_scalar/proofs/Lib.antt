pub mod Signs
pub mod Binaries
pub mod Asked
pub mod Words
