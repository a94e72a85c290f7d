pub mod Items
pub mod Shorter
pub mod Steps
pub mod Sorted
pub mod Sets
pub mod Compared
pub mod Worked
