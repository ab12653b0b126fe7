-- Words of private functions.
pub mod Answering
pub mod Halts
pub mod State
pub mod Going
pub mod Fits
pub mod Piles
pub mod Machines
pub mod Reached
pub mod Works
pub mod Starts
