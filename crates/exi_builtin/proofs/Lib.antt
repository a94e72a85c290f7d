pub mod Layouts
pub mod Shapes
pub mod Numbering
pub mod Naming
pub mod LearningLaws
mod Worked
pub mod Rules
pub mod Least
pub mod Indexing
pub mod Spares
pub mod WrittenCodes
pub mod Readers
