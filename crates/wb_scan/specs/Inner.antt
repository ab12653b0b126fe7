-- the longest match of an automaton
pub mod Longest
-- forms that were found
pub mod Found
-- which form beats which, and what is known of a state by it
pub mod Rankings
-- pairs that are found by hashing
pub mod Preferred
-- Words of private functions.
pub mod Lexicons
pub mod Written
