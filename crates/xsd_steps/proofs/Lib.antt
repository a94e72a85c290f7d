pub mod Led
pub mod LiesIn
pub mod Groups
