pub mod Sets
mod Codes
mod CommonTexts
mod Rooms
mod Runs
mod ShortCodes
mod WordTests
pub mod Letters
