-- what the tests of completeness ask, and when each refusal is true
pub mod Refusals
-- that they have at most one answer
pub mod OneAnswer
-- when a refusal is true
pub mod ForwardRefusals
-- what loops keep, and words of private functions
pub mod Inner
