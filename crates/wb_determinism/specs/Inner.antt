-- Words of private functions, and what loops keep.
pub mod Numbers
pub mod Moved
pub mod Contexts
pub mod Keeps
pub mod Envelopes
pub mod Conflicts
pub mod Considered
pub mod Shown
pub mod Clashes
pub mod Extended
pub mod Index
