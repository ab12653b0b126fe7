-- Words of private functions.
pub mod Free
pub mod Printed
