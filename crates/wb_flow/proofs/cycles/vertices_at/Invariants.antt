use Rattle.std.proofs.Common.{◌≡◌, Some, slice_get, take}
use Rattle.std.specs.List.{AllZip}
use Rattle.wb_flow.proofs.cycles.vertices_at.Given as goal

abbrev pub invariant-places : goal.invariant-places
invariant-places l = AllZip (λ place vertex. slice_get l.vertices place ≡ Some vertex) (take l.place-index l.places) l.found.items
