pub mod Spoken
pub mod Texts
