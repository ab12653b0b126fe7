-- which token can't come after bytes
pub mod Expected
pub mod Inner
