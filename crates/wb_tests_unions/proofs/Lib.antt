pub mod ZipLemmas
pub mod FitLemmas
pub mod UnionLemmas
pub mod WalkLemmas
