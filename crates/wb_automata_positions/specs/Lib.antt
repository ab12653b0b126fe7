-- lists that rise
pub mod Rising
-- lists of lists
pub mod Rows
-- how many nodes expressions have
pub mod Sizes
-- which bytes leaves hold
pub mod Leaves
-- bytes in classes, which the same leaves hold
pub mod Classes
-- a machine of places
pub mod Places
-- that machine as nodes have it
pub mod NodePlaces
-- lists of leaves, and what may come after them
pub mod Transitions
-- the tables of several expressions
pub mod Tables
-- what only proofs need
pub mod Inner
