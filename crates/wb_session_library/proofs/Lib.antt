-- a refusal of what a handle names is one of the handle
pub mod NamedLemmas
