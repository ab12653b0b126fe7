use Rattle.std.proofs.Common.{◌≡◌, Some, slice_get}
use Rattle.wb_flow_theory.specs.Occurrences.{Goes}
use Rattle.wb_flow.proofs.EachLemmas.{EachBefore}
use Rattle.wb_syntax_resolved.specs.declared.attributes.Direction.TheVariants.{Inherited}
use Rattle.wb_syntax_resolved.specs.declared.attributes.Occurrence.{Occurrence}
use Rattle.wb_complete.proofs.check.inherited_of_start.Given as goal

abbrev pub invariant-occurrences : goal.invariant-occurrences
invariant-occurrences l = EachBefore l.number-items l.number-index (λ n. (o : Occurrence)
    → slice_get l.scope.attributes.now.occurrences n ≡ Some o → ¬ Goes l.scope.attributes.now Inherited o.attribute)
