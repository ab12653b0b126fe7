use Rattle.std.proofs.Common.{◌≡◌, ◌<◌, ℕ, Some, slice_get}
use Rattle.wb_flow_theory.specs.Occurrences.{Goes}
use Rattle.wb_syntax_resolved.specs.declared.attributes.Direction.TheVariants.{Inherited}
use Rattle.wb_syntax_resolved.specs.declared.attributes.Occurrence.{Occurrence}
use Rattle.wb_flow.proofs.reads.inherits.Given as goal

abbrev pub invariant-occurrences : goal.invariant-occurrences
invariant-occurrences l =
    (j n : ℕ) (o : Occurrence) → j < l.number-index → slice_get l.number-items j ≡ Some n
    → slice_get l.scope.attributes.now.occurrences n ≡ Some o → ¬ Goes l.scope.attributes.now Inherited o.attribute
