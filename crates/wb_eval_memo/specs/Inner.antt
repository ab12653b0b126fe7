-- Words of private functions.
pub mod Steps
pub mod Cells
