-- new numbers by blocks
pub mod NewNumbers
-- what is lent, as rows of a host and of extensions
pub mod Lent
-- what only proofs need
pub mod Inner
