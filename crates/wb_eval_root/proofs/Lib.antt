-- no two attributes are printed alike
pub mod PrintedNames
-- which attributes may be asked of a tree
mod AskedLemmas
-- one thing comes of an attribute of a tree at most
pub mod OneValue
-- a term, a name and a number of steps have one answer at most
pub mod OneAnswer
-- what comes of an attribute that has a value
mod TreeLemmas
