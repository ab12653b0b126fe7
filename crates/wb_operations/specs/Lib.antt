-- what an operation gives, and which answers are what it gives
pub mod Given
-- operations by their signatures
pub mod Operations
-- lists of kinds, and the plain values of such lists
pub mod Takes
-- what the standard operations give, in whole numbers
pub mod Rows
-- the sixteen standard operations
pub mod Standard
-- that the closures of a table answer what is meant
pub mod Kept
-- how signatures are kept
pub mod Entries
