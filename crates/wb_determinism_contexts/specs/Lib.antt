-- what a parser may do at a prefix, and conflicts of two such actions
pub mod Conflicts
-- what a scanner considers at a prefix, and clashes of two such terminals
pub mod Considered
-- the sets of what is considered at each kernel
pub mod Sets
-- the kernels, lookaheads and tables of a grammar, and why it has none
pub mod Parts
-- what only proofs need
pub mod Inner
