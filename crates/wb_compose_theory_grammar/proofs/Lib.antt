pub mod PlaceLemmas
pub mod ProductionLemmas
pub mod FactLemmas
pub mod SymbolLemmas
pub mod BridgeLemmas
pub mod MarkedLemmas
pub mod RangeLemmas
pub mod CutLemmas
pub mod CoverLemmas
pub mod UnionGrammarLemmas
pub mod UnionCoverLemmas
pub mod CompositionLemmas
pub mod ApartLemmas
pub mod TogetherLemmas
pub mod UnitedLemmas
pub mod SingleLemmas
pub mod ExampleLemmas
pub mod CertificateLemmas
pub mod PieceLemmas
mod ChainLemmas
mod ChainConflicts
mod ChainHosts
mod ChainKernels
mod ChainRules
mod ChainExampleLemmas
