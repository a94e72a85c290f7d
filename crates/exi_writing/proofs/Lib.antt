pub mod Leaves
pub mod Contents
pub mod Tables
pub mod OneEvent
pub mod Runs
pub mod Worked
