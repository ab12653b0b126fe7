-- What loops keep, and words of private functions.
pub mod Empty
pub mod Odd
pub mod Sample
