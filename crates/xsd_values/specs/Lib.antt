pub mod Restricted
pub mod Mixed
pub mod Told
