mod AddedLemmas
mod AskedLemmas
