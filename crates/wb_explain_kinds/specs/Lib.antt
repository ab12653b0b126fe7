-- what is said of contents that are refused for a kind, or for a number of arguments
pub mod Said
