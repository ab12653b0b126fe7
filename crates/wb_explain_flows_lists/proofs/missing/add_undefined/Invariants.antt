use Rattle.wb_flow.specs.Inner.Adding.{SomeBefore}
use Rattle.wb_flow.specs.Adding.{Adds}
use Rattle.wb_flow.proofs.RowLemmas.{OfNumber}
use Rattle.wb_explain_flows_lists.specs.Inner.Found.{IsMissingFor}
use Rattle.wb_explain_flows_lists.proofs.MissingLemmas.{missing}
use Rattle.wb_syntax_resolved.specs.declared.attributes.Occurrence.{Occurrence}
use Rattle.wb_explain_flows_lists.proofs.missing.add_undefined.Given as goal

abbrev pub invariant-occurrences : goal.invariant-occurrences
invariant-occurrences l = Adds l.fn.found.items l.found.items (SomeBefore l.place-items l.place-index
    (OfNumber l.scope.attributes.now.occurrences
    (λ (o : Occurrence). IsMissingFor l.scope.attributes.now l.defined (missing l.number o.attribute))))
