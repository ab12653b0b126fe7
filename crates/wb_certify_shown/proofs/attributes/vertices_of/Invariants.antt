use Rattle.std.proofs.Common.{◌≡◌, map, take, slice_get}
use Rattle.wb_certify_shown.specs.Shows.{vertex_shown}
use Rattle.wb_certify_shown.proofs.attributes.vertices_of.Given as goal

abbrev pub invariant-vertices : goal.invariant-vertices
invariant-vertices l =
    l.made.items ≡ map (vertex_shown l.resolved (slice_get l.resolved.attributes.productions l.number)) (take l.vertex-index l.vertices)
