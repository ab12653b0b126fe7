pub mod KeepLemmas
mod Known
mod LineLemmas
mod ReservedLemmas
