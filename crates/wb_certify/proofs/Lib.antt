pub mod BesideLemmas
mod MarkLemmas
mod PreferenceLemmas
pub mod ValueLemmas
pub mod ExtensionLemmas
mod AnswerLemmas
mod NameLemmas
pub mod DeterminismLemmas
-- lemmas of `wb_determinism_host` that callers cite
pub use Rattle.wb_certify_host.proofs.DeterminismRefusalLemmas
pub use Rattle.wb_certify_host.proofs.DeterministicHostLemmas
pub use Rattle.wb_certify_host.proofs.LayoutLemmas
-- lemmas of `wb_certify_host` that callers cite
pub use Rattle.wb_certify_host.proofs.HostLemmas as CertifiedHostLemmas
pub use Rattle.wb_certify_host.proofs.RefusalLemmas as CertifyRefusalLemmas
pub use Rattle.wb_certify_host.proofs.ValueLemmas as CertifiedValueLemmas
-- lemmas of `wb_determinism_beside` that callers cite
pub use Rattle.wb_determinism_beside.proofs.InRange
pub use Rattle.wb_determinism_beside.proofs.KeptLemmas
pub use Rattle.wb_determinism_beside.proofs.LayoutRows
pub use Rattle.wb_determinism_beside.proofs.MarkerLemmas
pub use Rattle.wb_determinism_beside.proofs.NumberLemmas
pub use Rattle.wb_determinism_beside.proofs.OwnLemmas
pub use Rattle.wb_determinism_beside.proofs.PieceLemmas
pub use Rattle.wb_determinism_beside.proofs.RowLemmas
pub use Rattle.wb_determinism_beside.proofs.WrittenPreferences
pub use Rattle.wb_determinism_beside.proofs.WrittenRows
