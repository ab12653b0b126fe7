pub mod HoleLemmas
pub mod CallerLemmas
mod ListLemmas
