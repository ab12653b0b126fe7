-- what an evaluation answers
pub mod Evaluates
-- what waits where an evaluation ends without a value
pub mod Waits
-- words of private functions
pub mod Inner
