-- the least counts of leaves, and their sums
pub mod Counts
-- numbers that are drawn, and productions that they choose
pub mod Draws
-- the leaves that a form becomes
pub mod Making
-- the texts of leaves
pub mod Texts
-- what a call answers
pub mod Outcomes
-- laws of these
pub mod Laws
-- what only proofs need
pub mod Inner
