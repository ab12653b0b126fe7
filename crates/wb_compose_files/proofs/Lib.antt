-- what contents that are an extension after others make of them
pub mod NextLemmas
-- lemmas of `wb_compose_texts` that callers cite
pub use Rattle.wb_compose_texts.proofs.ComposedValues
pub use Rattle.wb_compose_texts.proofs.ParsedLemmas
