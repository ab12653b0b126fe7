use Rattle.wb_flow.specs.Inner.Adding.{SomeBefore}
use Rattle.wb_flow.specs.Adding.{Adds}
use Rattle.wb_flow.specs.Inner.Arrows.{IsCopyArrow}
use Rattle.wb_flow.proofs.RowLemmas.{OfNumber}
use Rattle.wb_flow.proofs.arrows.add_undefined_of.Given as goal

abbrev pub invariant-occurrences : goal.invariant-occurrences
invariant-occurrences l = Adds l.fn.arrows.items l.arrows.items (SomeBefore l.number-items l.number-index
    (OfNumber l.scope.attributes.now.occurrences (λ o. IsCopyArrow l.scope.attributes.now l.production o.attribute)))
