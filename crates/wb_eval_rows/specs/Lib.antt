-- numbers by row and column
pub mod Rows
-- how rows lie in one list
pub mod Layout
-- rows of which little is written, in memory of that
pub mod Sparse
-- words of private functions
pub mod Inner
