-- lists of edits, and why other texts are refused
pub mod Edits
-- what a reading of a part of a text has found
pub mod Inner
