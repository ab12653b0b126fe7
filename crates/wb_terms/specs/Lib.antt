-- terms, as trees of names and plain values with their places
pub mod Term
-- the tokens that a term has
pub mod TermGrammar
-- the bytes of a term, and the first place at which no term goes on
pub mod TermText
-- the nodes of a term
pub mod Nodes
-- the tree that a term stands for, and where a term doesn't fit
pub mod TreeOf
-- the answer for some bytes
pub mod TermAnswer
-- how a value is printed
pub mod Printed
-- which texts are too long
pub mod Lengths
pub mod Inner
