-- pairs of terminals that no preference orders, at the states of an automaton
pub mod Undecided
-- relations between terminals as rows of sets
pub mod Rows
-- pairs of terminals that have to be compared
pub mod Candidates
-- a text that the two of some pair share
pub mod Shared
