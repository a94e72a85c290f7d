pub mod Outcomes
pub mod Hands
pub mod Desks
