-- when a resolved host is certified
pub mod Hosts
-- why it isn't, each reason with a true example where no earlier one holds
pub mod Refusals
-- when the attributes of a resolved host are well defined, and why they aren't
pub mod WellDefined
-- what each test of a host tells
pub mod Tests
-- words of `wb_determinism_host` that callers speak of
pub use Rattle.wb_determinism_host.specs.Hosts as DeterministicHosts
pub use Rattle.wb_determinism_host.specs.Judged
pub use Rattle.wb_determinism_host.specs.Lexicons
pub use Rattle.wb_determinism_host.specs.Refusals as DeterminismRefusals
pub use Rattle.wb_determinism_host.specs.declared.parts
pub use Rattle.wb_determinism_host.specs.declared.refusal as determinism_refusal
-- words of `wb_names` that callers speak of
pub use Rattle.wb_names.specs.Resolving
-- what only proofs need
pub mod Inner
