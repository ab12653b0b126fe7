-- texts, and where each is first
pub mod Index
-- names in the order of their numbers, and the numbers and places that they stand for
pub mod Scope
-- that the names which are declared are there
pub mod There
-- names in nodes and targets that are there, and what they are found as
pub mod Nodes
-- rows of a base in other numbers
pub mod Moves
-- the equations of items that write on a production
pub mod Blocks
-- the row of a production, by its parts
pub mod Row
-- items of names alone, and the rows that are found
pub mod Plains
-- rows of terminals: those of the grammar, and layout
pub mod Terminals
-- rows of a base's attributes, occurrences and preferences in other numbers
pub mod Base
-- rows of productions that a grammar can have
pub mod Grammars
-- numbers that are marked
pub mod Marks
-- what each item says is of the grammar
pub mod GrammarNames
-- words of private functions
pub mod Inner
