pub mod BuiltLemmas
pub mod ChainLemmas
pub mod ExtendLemmas
pub mod LeafLemmas
pub mod StepLemmas
pub mod ValueLemmas
