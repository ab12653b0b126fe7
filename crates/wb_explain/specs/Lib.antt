-- what is written
pub mod Explained
pub mod Inner
