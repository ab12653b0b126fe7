pub mod BeatLemmas
pub mod FoundLemmas
pub mod LandingLemmas
pub mod LongestLemmas
mod ReachLemmas
mod PreferenceLemmas
pub mod RangeLemmas
pub mod ScanLemmas
pub mod FormLemmas
mod SetLemmas
mod ClashLemmas
mod LanguageLemmas
pub mod RefusalLemmas
