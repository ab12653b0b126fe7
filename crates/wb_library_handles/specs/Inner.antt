-- Words of private functions.
pub mod Free
