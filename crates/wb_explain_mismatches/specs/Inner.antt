-- Words of private functions: which expression is found, which kinds are known, which counts are wrong, and what is said.
pub mod Found
pub mod Known
pub mod Counts
pub mod Saying
