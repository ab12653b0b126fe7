use Rattle.wb_flow.specs.Inner.Adding.{SomeBefore}
use Rattle.wb_flow.specs.Adding.{Adds}
use Rattle.wb_flow.specs.Inner.Arrows.{IsOccurrenceArrow}
use Rattle.wb_flow.proofs.RowLemmas.{OfNumber}
use Rattle.wb_flow.proofs.arrows.add_needs_of.Given as goal

abbrev pub invariant-occurrences : goal.invariant-occurrences
invariant-occurrences l = Adds l.fn.arrows.items l.arrows.items (SomeBefore l.number-items l.number-index
    (OfNumber l.scope.attributes.now.occurrences (IsOccurrenceArrow l.scope.attributes.now l.tree.position)))
