-- What loops keep, and words of private functions.
pub mod Chains
pub mod Filling
pub mod Links
pub mod Numbers
pub mod Pools
pub mod Spreading
