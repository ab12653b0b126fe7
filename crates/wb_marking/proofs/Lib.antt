mod PlaceLemmas
mod ClashLemmas
mod ListedLemmas
mod MarkedLemmas
pub mod RefusalLemmas
mod ScopeLemmas
pub mod CallerLemmas
