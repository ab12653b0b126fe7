-- Words of private functions.
pub mod Tests
