-- the grammar without what it makes of a text
pub mod Bare
-- what is on top of the stack
pub mod Machine
-- what a walk over a text has found
pub mod Steps
-- what adding one kind does
pub mod Added
