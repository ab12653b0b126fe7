-- what could come where a text stops
pub mod Expected
-- the words of a language at a place of a text
pub mod WordsAt
-- what loops keep, and words of private functions
pub mod Inner
