-- Words of private functions, and what loops keep.
pub mod Flags
pub mod Judging
pub mod Lists
