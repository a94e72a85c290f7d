pub mod Own
pub mod Named
pub mod Bases
pub mod Sourced
pub mod Allowing
