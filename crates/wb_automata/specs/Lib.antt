-- what the states of an automaton say of the texts that lead to them
pub mod Automata
-- the order of texts
pub mod Order
-- the least texts that two expressions share and that one matches
pub mod Overlaps
-- the texts that expressions of a list share
pub mod Sharing
-- what an automaton keeps
pub mod Kept
-- codes of moves
pub mod Moves
-- paths of states, by where each was found from
pub mod Paths
-- lists in one list
pub mod Rows
-- what only proofs need
pub mod Inner
