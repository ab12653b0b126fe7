-- What is kept while lookaheads spread, and words of private functions.
pub mod Rests
pub mod Spreading
