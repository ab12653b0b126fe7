-- what each row or item adds to the names of a sort
pub mod Names
-- rows of nonterminals, those of the grammar apart from the others
pub mod Nonterminals
-- the numbers of a base's names, and the names of rows
pub mod Tables
-- what an item adds to the places of those that write on each production
pub mod Writers
