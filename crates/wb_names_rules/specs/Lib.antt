-- what an index keeps of its declarations
pub mod Index
-- keys of declarations, and what a table of them knows
pub mod Keys
pub mod Indexed
-- what tests and loops keep
pub mod Inner
