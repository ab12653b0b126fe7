use Rattle.std.proofs.Common.{◌≡◌, []}
use Rattle.wb_flow.specs.Inner.Adding.{SomeBefore}
use Rattle.wb_flow.specs.Adding.{Adds}
use Rattle.wb_flow.specs.Tops.{IsTop}
use Rattle.wb_flow.proofs.reach.tops_of.Given as goal

abbrev pub invariant-vertices : goal.invariant-vertices
invariant-vertices l =
    Adds [] l.tops (SomeBefore l.vertices l.vertex-index (λ vertex added. (added ≡ vertex) × IsTop l.scope.attributes.now added))
