-- what is said of a name
pub mod Said
-- which tokens are of a text, and what one step says
pub mod Inner
