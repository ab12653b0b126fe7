-- What loops keep, and words of private functions.
pub mod Groups
pub mod Lowerings
pub mod Choices
pub mod States
pub mod Runs
