-- What loops keep, and words of private functions.
pub mod Adding
pub mod Positions
pub mod Arrows
pub mod Sources
pub mod Closing
