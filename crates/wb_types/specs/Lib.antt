-- which kinds expressions have
pub mod Kinds
-- which expressions are in an attribution, and of which kind each has to be
pub mod Expected
-- what the kind rules ask of them
pub mod Rules
-- when each refusal is true
pub mod Refusals
-- that the kind rules have at most one answer
pub mod OneAnswer
-- what loops keep, and words of private functions
pub mod Inner
