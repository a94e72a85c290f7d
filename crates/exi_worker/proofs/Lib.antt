pub mod Pages
pub mod Doing
pub mod Holding
pub mod Taping
