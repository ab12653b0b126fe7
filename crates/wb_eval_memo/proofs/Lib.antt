pub mod SitesLemmas
pub mod SlotLemmas
pub mod MemoLemmas
