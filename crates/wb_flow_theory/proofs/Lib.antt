pub mod OccurrenceLemmas
pub mod EdgeLemmas
pub mod RuleLemmas
