-- grammars with actions: which tokens they derive, and which values they make of them
pub mod Grammar
-- the reading of a text of bytes, and its first error
pub mod Reading
-- the right sides and kinds that rules in code stand for
pub mod Rules
-- tests on lists of kinds
pub mod Kinds
-- what a table gives of each nonterminal, and the test that one token of lookahead decides by it
pub mod Entries
-- a small table: nested lists of digits
pub mod Nested
-- which right side is chosen at a kind
pub mod Choice
-- what a row of symbols stands for: the texts that may come after the tokens that were read
pub mod Stack
-- what loops keep, and words of private functions
pub mod Inner
