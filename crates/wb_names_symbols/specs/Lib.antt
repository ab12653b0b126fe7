-- a file on its base, as it is lent
pub mod Lent
-- files whose names are right
pub mod Right
-- rows in the order of their numbers
pub mod Rows
-- rows of terminals and nonterminals, the names of all sorts by number, and the new numbers of a base's
pub mod Symbols
-- no rows, names and numbers
pub mod Empty
-- which items write on each production
pub mod Writers
-- words of private functions
pub mod Inner
