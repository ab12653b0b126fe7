pub mod PassLemmas
