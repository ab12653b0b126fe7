-- What loops keep, and words of private functions.
pub mod Tests
-- what each test of a production asks and tells
pub mod ForwardTests
