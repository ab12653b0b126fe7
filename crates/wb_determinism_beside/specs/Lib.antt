-- an extension as a piece beside its host
pub mod Pieces
-- what keeps its number with an extension
pub mod KeptNumbers
-- what the laws of a host and an extension ask of it
pub mod Given
-- what is asked of a host and an extension, where their determinism is tested
pub mod Asked
-- words of `wb_determinism` that callers speak of
pub use Rattle.wb_determinism.specs.EnvelopeClash
pub use Rattle.wb_determinism.specs.Extensions as DeterministicExtensions
pub use Rattle.wb_determinism.specs.Images as DeterminismImages
pub use Rattle.wb_determinism.specs.LookaheadRule
pub use Rattle.wb_determinism.specs.Numbers as DeterminismNumbers
pub use Rattle.wb_determinism.specs.Refusals as ExtensionDeterminism
pub use Rattle.wb_determinism.specs.declared.numbers as determinism_numbers
-- what only proofs need
pub mod Inner
