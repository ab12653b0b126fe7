mod LineLemmas
mod ListLemmas
mod SaidLemmas
mod TreeLemmas
mod WordLemmas
