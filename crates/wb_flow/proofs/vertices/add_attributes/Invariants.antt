use Rattle.std.proofs.Common.{◌≡◌}
use Rattle.wb_flow.specs.Inner.Adding.{SomeBefore}
use Rattle.wb_flow.specs.Adding.{Adds}
use Rattle.wb_flow.specs.Inner.Positions.{vertex_at}
use Rattle.wb_flow.proofs.RowLemmas.{OfNumber}
use Rattle.wb_flow.proofs.vertices.add_attributes.Given as goal

abbrev pub invariant-occurrences : goal.invariant-occurrences
invariant-occurrences l = Adds l.fn.vertices l.vertices (SomeBefore l.number-items l.number-index
    (OfNumber l.scope.attributes.now.occurrences (λ o v. v ≡ vertex_at l.tree.position o.attribute)))
