-- What loops keep, and words of private functions.
pub mod Advances
pub mod Down
pub mod Following
pub mod Growing
pub mod Holes
pub mod MovedKernels
pub mod Starting
