-- What the loops keep: edges that are not yet taken, a depth-first search, a worklist, and groups of open vertices.
pub mod Taking
pub mod Search
pub mod Worklist
pub mod Groups
