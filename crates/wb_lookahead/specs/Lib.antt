-- tables of a grammar, and the conflicts for which there are none
pub mod Tables
-- tables as values: what they hold for each kernel
pub mod Contents
-- numbers that stand for actions and for kernels after nonterminals
pub mod Codes
-- matrices: rows of one length, as tables keep them
pub mod Matrices
-- what loops keep, and words of private functions
pub mod Inner
