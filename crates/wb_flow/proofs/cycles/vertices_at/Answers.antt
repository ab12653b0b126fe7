use Rattle.std.proofs.Common.{◌≡◌, ℕ, List, Some, slice_get, subst}
use Rattle.std.specs.List.{AllZip}
use Rattle.std.proofs.lemmas.List.{take_all}
use Rattle.wb_flow.proofs.EachLemmas.{zip_more, read_place}
use Rattle.wb_flow.proofs.cycles.vertices_at.Goals as goal

pub places-preserved : goal.places-preserved
places-preserved c =
    zip_more (λ place vertex. slice_get c.args.vertices.now place ≡ Some vertex) c.args.places.now c.places.place-index 0 c.places.found.items
    c.push.new.list.items _ c.places-test.true c.places.invariant
    (read_place c.args.vertices.now c.args.places.now c.places.place-index 0 _ c.requires c.places-test.true) c.in_ok-push.ensures.ok

pub bounds-vertices-place : goal.bounds-vertices-place
bounds-vertices-place c = c.requires c.places.place-index 0 c.places-test.true

pub returns : goal.returns
returns c =
    subst (λ (z : List ℕ). AllZip (λ place vertex. slice_get c.args.vertices.now place ≡ Some vertex) z c.places.found.items)
    (take_all c.places.place-index c.args.places.now c.places-test.false) c.places.invariant
