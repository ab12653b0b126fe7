-- The parser's stack and its steps, and the laws of the small table.
-- what is on top of it, and what a step has found
pub mod Machine
pub mod Steps
-- the laws of nested lists
pub mod NestedLaws
