-- words with blanks before them, and the names of the parts of a tree
pub mod Words
-- what is said of a conflict
pub mod Said
pub mod Inner
