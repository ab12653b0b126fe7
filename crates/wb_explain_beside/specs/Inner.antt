-- what is said of two grammars
pub mod Grammars
