-- Words of private functions.
pub mod Stacks
