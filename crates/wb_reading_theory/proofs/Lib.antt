pub mod FormLemmas
pub mod NextLemmas
pub mod TreeLemmas
pub mod WalkLemmas
pub mod BeginLemmas
pub mod StopLemmas
pub mod MarkerLemmas
pub mod EndLemmas
pub mod VertexLemmas
pub mod SeenLemmas
pub mod BackLemmas
pub mod OnceLemmas
pub mod NeededLemmas
pub mod EvaluationLemmas
pub mod OwnedLemmas
pub mod ReadingLemmas
pub mod UnionGrammarLemmas
pub mod UnionFormLemmas
mod FurtherItems
pub mod UnionLanguageLemmas
pub mod UnionAttributeLemmas
pub mod PrintedLemmas
-- lemmas of `wb_compose_theory_order` that callers cite
pub use Rattle.wb_compose_theory_order.proofs.LanguageLemmas as OrderedLanguageLemmas
pub use Rattle.wb_compose_theory_order.proofs.NameLemmas as OrderedNameLemmas
pub use Rattle.wb_compose_theory_order.proofs.NumberLemmas as OrderedNumberLemmas
pub use Rattle.wb_compose_theory_order.proofs.PrintedLemmas as OrderedPrintedLemmas
pub use Rattle.wb_compose_theory_order.proofs.TextLemmas as OrderedTextLemmas
