mod AskLemmas
pub mod FewLeaves
pub mod OneAsked
mod PartLemmas
mod RowLemmas
mod SlotLemmas
mod SplitLemmas
mod ValueLemmas
