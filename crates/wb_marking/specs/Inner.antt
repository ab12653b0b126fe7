-- what a table says of the productions that markers begin
pub mod Begun
-- terminals that are compared
pub mod Compared
-- the expressions of terminals
pub mod Patterns
