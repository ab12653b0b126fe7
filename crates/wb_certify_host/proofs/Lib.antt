pub mod ValueLemmas
pub mod HostLemmas
pub mod RefusalLemmas
-- lemmas of `wb_determinism_host` that callers cite
pub use Rattle.wb_determinism_host.proofs.HostLemmas as DeterministicHostLemmas
pub use Rattle.wb_determinism_host.proofs.LayoutLemmas
pub use Rattle.wb_determinism_host.proofs.RefusalLemmas as DeterminismRefusalLemmas
