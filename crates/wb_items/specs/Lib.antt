-- kernels by numbers, with their items, and where symbols lead from each
pub mod Kernels
-- kernels that are listed with the moves between them
pub mod Parts
-- the kernels after all symbols, from a closure
pub mod MovedKernels
-- symbols in order
pub mod Order
-- kernels as they are kept, with their moves, and the productions of each nonterminal
pub mod Table
-- prefixes as steps from earlier ones
pub mod Index
-- sets of terminals for the items of each kernel, by numbers
pub mod Lookaheads
-- which items have one set
pub mod Apart
-- the lookaheads of a grammar's items as such sets
pub mod LookaheadSets
-- items that moved over a symbol, and kernels in order
pub mod Moved
-- items in order, each once
pub mod Sorted
-- kernels in the order of sets of items, by numbers
pub mod KernelOrder
-- what loops keep, and words of private functions
pub mod Inner
