use Rattle.std.proofs.Common.{◌≡◌, ◌<◌, ℕ, Some, slice_get}
use Rattle.wb_syntax_resolved.specs.declared.attributes.Occurrence.{Occurrence}
use Rattle.wb_eval_root.specs.Inner.Free.{IsFree}
use Rattle.wb_eval_root.proofs.asked.free_on.Given as goal

abbrev pub invariant-occurrences : goal.invariant-occurrences
invariant-occurrences l = (k : ℕ) (o : Occurrence) → k < l.occurrence-index → slice_get l.occurrence-items k ≡ Some o
    → ¬ IsFree l.attributes l.name l.nonterminal o
