mod ClashLemmas
pub mod ConflictLemmas
pub mod OrderLemmas
mod SetLemmas
