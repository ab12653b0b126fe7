-- which tokens are of a text, and what one step says
pub mod Shown
