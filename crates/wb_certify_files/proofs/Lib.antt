pub mod OneHostAnswer
pub mod ShownHosts
pub mod UnresolvedLemmas
pub mod HostLemmas
pub mod OneExtensionAnswer
pub mod ShownExtensions
pub mod ExtensionLemmas
pub mod RecheckCallerLemmas
mod RecheckShownLemmas
mod RecheckSortLemmas
mod RecheckedExtensionLemmas
mod RecheckedHostLemmas
mod OneRecheckedExtension
mod OneRecheckedHost
-- lemmas of `wb_certify_shown` that callers cite
pub use Rattle.wb_certify_shown.proofs.HoleLemmas
