use Rattle.std.proofs.Common.{◌≡◌, ◌<◌, ℕ, Some, slice_get}
use Rattle.wb_flow.specs.Inner.Sources.{HoldsForward}
use Rattle.wb_syntax_resolved.specs.declared.attributes.Occurrence.{Occurrence}
use Rattle.wb_flow.proofs.check.check_forward_needs.Given as goal

abbrev pub invariant-occurrences : goal.invariant-occurrences
invariant-occurrences l = (k : ℕ) (o : Occurrence) → k < l.occurrence-index → slice_get l.occurrence-items k ≡ Some o
    → HoldsForward l.scope.attributes.now o
