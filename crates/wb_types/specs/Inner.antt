-- What loops keep, and words of private functions.
pub mod Nodes
pub mod Passes
