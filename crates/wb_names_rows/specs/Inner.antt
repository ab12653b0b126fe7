-- what is marked for a row, for a grammar and for a base
pub mod Marks
-- what a form says is of the grammar in a concrete production
pub mod GrammarNames
-- right sides of the productions of a grammar
pub mod Grammars
-- what one element adds
pub mod Nodes
