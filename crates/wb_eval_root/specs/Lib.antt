-- which attribute is asked by a name
pub mod Asked
-- what comes of an attribute at the root of a tree
pub mod Values
-- what comes of asking for an attribute at the root of a written term
pub mod Answers
-- words of private functions
pub mod Inner
