pub mod Names
pub mod Under
pub mod ValueCharges
