pub mod Decls
pub mod Walks
pub mod Lists
