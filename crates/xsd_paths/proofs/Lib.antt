pub mod Within
pub mod Orders
pub mod There
pub mod Marking
