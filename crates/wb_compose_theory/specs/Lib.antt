-- the names of a host, its holes and its extensions, and the grammars that are made of them
pub mod Worlds
-- markers, holes and bridges
pub mod Marks
-- what a part derives
pub mod Derives
-- valid items, kernels and closures of a part
pub mod Items
-- lookaheads, shifts, reductions, conflicts and valid terminals of a part
pub mod Lookaheads
-- what is certified of a host, and of an extension beside it alone
pub mod Composable
-- the grammars that are certified apart
pub mod Homes
-- lookaheads and valid terminals of a union, from those grammars
pub mod Stands
-- new numbers for a grammar
pub mod Renamings
-- what is certified of an extension, in the numbers of two grammars
pub mod Numbered
-- grammars in their own numbers, as parts of a world
pub mod Seams
-- numbers in blocks
pub mod Blocks
-- what there is at a composition
pub mod Composed
-- a small world
pub mod Example
-- what the laws say of a world
pub mod Laws
-- what the laws say in numbers
pub mod NumberLaws
