-- sets at the new kernels
pub mod NewLookaheads
-- what is kept while they spread, and words of private functions
pub mod Inner
