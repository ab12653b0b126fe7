mod CandidateLemmas
pub mod ClashLemmas
mod FoundLemmas
mod RowLemmas
mod TextLemmas
