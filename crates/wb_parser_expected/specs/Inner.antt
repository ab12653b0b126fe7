-- stacks on which the machine stands before a terminal, and what it can do there
pub mod Trials
-- what a walk over a text keeps
pub mod Walks
-- the longer of two words
pub mod Longer
