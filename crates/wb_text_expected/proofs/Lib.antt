pub mod BareLemmas
pub mod ComesLemmas
pub mod CallerLemmas
