pub mod Items
pub mod Lists
pub mod Upwards
pub mod Words
