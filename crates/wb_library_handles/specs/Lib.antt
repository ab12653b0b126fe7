-- which value a handle names, and what becomes of the others
pub mod Handles
-- words of private functions
pub mod Inner
