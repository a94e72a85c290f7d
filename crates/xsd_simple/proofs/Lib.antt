pub mod Follows
pub mod Fuel
pub mod Kept
pub mod Table
