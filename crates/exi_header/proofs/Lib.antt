pub mod Marks
pub mod Backs
pub mod Worked
