pub mod Views
pub mod Rule
pub mod Plays
pub mod Arrivals
pub mod Seats
pub mod Laws
