-- What a table of the tests means.
pub mod Odd
