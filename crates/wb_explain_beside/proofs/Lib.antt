mod ListLemmas
mod SaysLemmas
mod SideLemmas
