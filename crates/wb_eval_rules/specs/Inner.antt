-- Words of private functions.
pub mod Emitted
pub mod Found
