pub mod Compiled
pub mod FragmentGrammar
pub mod Sound
