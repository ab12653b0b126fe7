use Rattle.std.proofs.Common.{◌≢◌, ◌≡◌, ◌<◌, ℕ, Some, slice_get}
use Rattle.wb_syntax_resolved.specs.declared.attributes.Occurrence.{Occurrence}
use Rattle.wb_flow.proofs.occurrences.Scope.listed_needs.Given as goal

abbrev pub invariant-occurrences : goal.invariant-occurrences
invariant-occurrences l =
    (j n : ℕ) (o : Occurrence) → j < l.number-index → slice_get l.number-items j ≡ Some n
    → slice_get l.self.attributes.now.occurrences n ≡ Some o → o.attribute ≢ l.attribute
