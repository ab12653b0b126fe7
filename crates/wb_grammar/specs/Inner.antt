-- What loops keep, and words of private functions.
pub mod LeastSets
pub mod Edges
pub mod Firsts
pub mod Paths
pub mod Together
pub mod Worklists
