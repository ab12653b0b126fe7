-- texts that agree so far, by what is in front
pub mod Agreeing
-- trees with holes, one after another
pub mod Linked
