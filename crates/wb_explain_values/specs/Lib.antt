-- what is said of a value that is asked of a text or of a term
pub mod Said
pub mod Inner
