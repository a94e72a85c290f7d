pub mod Members
pub mod Openings
pub mod StandIns
