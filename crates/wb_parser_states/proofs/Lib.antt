pub mod ChainLemmas
pub mod TableLemmas
pub mod StateLemmas
pub mod RuleLemmas
pub mod StepLemmas
pub mod CodeLemmas
pub mod ReadyLemmas
