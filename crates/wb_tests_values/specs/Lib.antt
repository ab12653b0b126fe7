-- what loops keep, and words of private functions
pub mod Inner
