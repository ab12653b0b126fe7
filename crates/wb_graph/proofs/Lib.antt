mod AdvanceLemmas
pub mod CallerLemmas
mod ClosingLemmas
mod ComponentLemmas
mod GroupLemmas
mod LeaveLemmas
mod MarkLemmas
mod OrderLemmas
mod Places
mod SearchLemmas
mod StepLemmas
mod TakingLemmas
mod WorklistLemmas
