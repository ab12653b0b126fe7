-- what a specification resolves to, and why it doesn't
pub mod Resolving
-- words of private functions
pub mod Inner
