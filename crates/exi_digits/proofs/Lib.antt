pub mod Numbers
pub mod Decimals
pub mod Pushing
pub mod Splitting
pub mod Worked
