pub mod Alone
pub mod Knowing
pub mod Promises
pub mod Words
