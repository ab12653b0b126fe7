-- when an extension is certified with its host
pub mod Extensions
-- why it isn't, each reason with a true example where no earlier one holds
pub mod Refusals
-- what the tests of markers and of attributes tell
pub mod Tests
-- what is kept of a certified extension
pub mod Kept
-- that there is one answer
pub mod OneAnswer
-- what makes an extension deterministic beside the grammar of a host
pub mod Beside
-- words of `wb_determinism_host` that callers speak of
pub use Rattle.wb_certify_host.specs.DeterminismRefusals
pub use Rattle.wb_certify_host.specs.DeterministicHosts
pub use Rattle.wb_certify_host.specs.Judged
pub use Rattle.wb_certify_host.specs.Lexicons
pub use Rattle.wb_certify_host.specs.determinism_refusal
pub use Rattle.wb_certify_host.specs.parts
-- words of `wb_certify_host` that callers speak of
pub use Rattle.wb_certify_host.specs.Hosts
pub use Rattle.wb_certify_host.specs.Refusals as CertifyRefusals
pub use Rattle.wb_certify_host.specs.Tests as HostTests
pub use Rattle.wb_certify_host.specs.WellDefined as WellDefinedHosts
pub use Rattle.wb_certify_host.specs.declared.refusal as certify_refusal
-- words of `wb_names` that callers speak of
pub use Rattle.wb_certify_host.specs.Resolving
-- words of `wb_determinism` that callers speak of
pub use Rattle.wb_determinism_beside.specs.DeterminismImages
pub use Rattle.wb_determinism_beside.specs.DeterminismNumbers
pub use Rattle.wb_determinism_beside.specs.DeterministicExtensions
pub use Rattle.wb_determinism_beside.specs.EnvelopeClash
pub use Rattle.wb_determinism_beside.specs.ExtensionDeterminism
pub use Rattle.wb_determinism_beside.specs.LookaheadRule
pub use Rattle.wb_determinism_beside.specs.determinism_numbers
-- words of `wb_determinism_beside` that callers speak of
pub use Rattle.wb_determinism_beside.specs.KeptNumbers
pub use Rattle.wb_determinism_beside.specs.Pieces
-- what only proofs need
pub mod Inner
