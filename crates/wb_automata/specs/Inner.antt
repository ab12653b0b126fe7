-- the terminals that states accept
pub mod Accepted
-- lists of leaves that share their beginnings
pub mod Chains
-- the first group that has the ends of two expressions
pub mod Endings
-- where bytes lead from the states that were found
pub mod Exploring
-- lists in one list
pub mod FlatRows
-- states as they are found
pub mod Found
-- the first state that accepts a terminal
pub mod LeastStates
-- pairs of places, and the groups in which they are met
pub mod Pairs
-- expressions that are one text alone
pub mod PlainTexts
-- pairs of starts and of ends
pub mod Starts
-- pairs from which no text goes on
pub mod Stuck
-- a code of views
pub mod ViewCode
-- which leaves hold each byte
pub mod Ways
