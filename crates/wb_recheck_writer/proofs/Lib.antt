mod EndLemmas
mod FirstLemmas
mod KeyLemmas
mod LineLemmas
mod MoveLemmas
mod MovedLemmas
mod ReachedLemmas
mod OpenedLemmas
pub mod OneLines
pub mod OneEntries
