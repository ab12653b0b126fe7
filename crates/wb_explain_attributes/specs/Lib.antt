-- the numbered value of a file, and what is said of it
pub mod Values
