-- which kinds can come at a place
pub mod Expected
-- words of private functions
pub mod Inner
