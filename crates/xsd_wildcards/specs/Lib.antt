pub mod Wildcards
