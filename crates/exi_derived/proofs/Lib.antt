pub mod Places
pub mod Plans
pub mod OneEvent
pub mod Lists
pub mod Enough
pub mod Bodies
pub mod Fronts
