mod FlagLemmas
pub mod HostLemmas
mod JudgeLemmas
pub mod LayoutLemmas
pub mod RefusalLemmas
