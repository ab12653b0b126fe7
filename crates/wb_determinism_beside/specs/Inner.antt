-- Words of private functions, and what loops keep.
pub mod Seen
pub mod Images
pub mod Found
pub mod Rows
pub mod Asking
