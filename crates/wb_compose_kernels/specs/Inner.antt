-- What loops keep, and words of private functions.
pub mod Given
pub mod Blocks
pub mod Lists
pub mod Moves
pub mod Taken
pub mod Images
pub mod Filling
pub mod Counts
