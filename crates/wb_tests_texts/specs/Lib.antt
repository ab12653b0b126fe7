-- what a table of the tests means
pub mod Inner
