-- strings, and where one first goes wrong
pub mod Strings
-- how far a list of edits has been read
pub mod Progress
