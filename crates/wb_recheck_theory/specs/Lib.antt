-- kernels as lines, their items and moves, and the prefixes that lead to them
pub mod Lines
-- lookaheads as entries, and what follows from each
pub mod Entries
-- certificates: good lines and entries to which nothing more can be added
pub mod Certificates
-- kernels as lists of items with the moves between them, and the prefixes found along the moves
pub mod KernelLists
-- small grammars with certificates, of which one lists a kernel of no prefix
pub mod Examples
-- entries as they are listed, and kernels that are numbered otherwise
pub mod Listed
-- what a checker and a writer keep while they go through a list
pub mod Inner
