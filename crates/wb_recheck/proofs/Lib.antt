mod AnswerLemmas
mod ExtensionLemmas
mod FaultLemmas
mod HandedLemmas
mod HostLemmas
mod OneFaultLemmas
mod SortLemmas
mod FitLemmas
mod LengthLemmas
mod SmallLemmas
mod TextLemmas
-- lemmas of `wb_determinism_host` that callers cite
pub use Rattle.wb_certify.proofs.DeterminismRefusalLemmas
