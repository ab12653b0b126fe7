-- what an analysis knows of a grammar: the nullable nonterminals and First sets, and that the grammar is fit for parsing
pub mod Facts
-- why a grammar is refused, each reason with a true example, in the order in which they are shown
pub mod Refusals
-- what loops keep, and words of private functions
pub mod Inner
