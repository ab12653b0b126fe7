-- sets of texts, and where a text first goes wrong
pub mod Parts
-- the first fault of a whole text
pub mod Faults
-- how far a word or a number goes
pub mod Inner
