mod TargetLemmas
mod IndexLemmas
pub mod CodeLemmas
pub mod NumberLemmas
mod PairLemmas
mod WayLemmas
