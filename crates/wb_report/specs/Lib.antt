-- parts of lines: names after spaces, prefixes, items, actions, vertices
pub mod Parts
-- the lines of a command that comes to its end
pub mod Done
-- why a file is refused, by what its rule speaks of
pub mod Reasons
-- the lines of every outcome
pub mod Lines
-- what only proofs need
pub mod Inner
