-- what is lent of a host and its extensions
pub mod Lent
-- what loops keep, and words of private functions
pub mod Inner
