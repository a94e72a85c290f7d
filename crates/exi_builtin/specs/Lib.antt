pub mod BuiltIn
pub mod Learning
pub mod Uses
pub mod Marks
pub mod LeastCodes
pub mod Kept
pub mod Layout
pub mod CodeParts
