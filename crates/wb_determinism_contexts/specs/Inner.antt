-- Words of private functions, and what loops keep.
pub mod Own
