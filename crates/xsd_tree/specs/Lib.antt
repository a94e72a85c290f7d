pub mod StartTags
pub mod Trees
pub mod Reading
