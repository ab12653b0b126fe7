pub mod BridgedLemmas
pub mod JoinedLemmas
pub mod ImageLemmas
mod RuleLemmas
pub mod CertifiedLemmas
pub mod WrittenLemmas
pub mod ApartLemmas
pub mod WrittenApart
pub mod SpelledLemmas
pub mod ExistenceLemmas
pub mod KeepLemmas
pub mod CutLemmas
pub mod AdditionLemmas
pub mod UnionLemmas
pub mod LawLemmas
pub mod AgreementLemmas
pub mod HostLanguageLemmas
mod LendingLemmas
mod ComposedLemmas
pub mod LocalLemmas
mod CutRows
mod ComposedAttributes
-- lemmas of `wb_compose_theory_lists` that callers cite
pub use Rattle.wb_compose_theory_lists.proofs.LawLemmas as ListLawLemmas
pub use Rattle.wb_compose_theory_lists.proofs.PlacedLemmas
