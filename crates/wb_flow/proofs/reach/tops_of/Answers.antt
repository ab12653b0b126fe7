use Rattle.std.proofs.Common.{[], ◌≤◌, length, sym, subst, arith}
use Rattle.std.proofs.lemmas.Option.{slice_get-get_or}
use Rattle.wb_flow.specs.Inner.Adding.{SomeBefore, SomeOf}
use Rattle.wb_flow.specs.Adding.{Adds}
use Rattle.wb_flow.proofs.AddingLemmas.{adds_start, adds_more, adds_all, adds_to_nothing}
use Rattle.wb_flow.proofs.ReachLemmas.{IsTopOf, tops_are}
use Rattle.wb_flow.proofs.reach.tops_of.Goals as goal

pub vertices-init : goal.vertices-init
vertices-init c =
    let P = IsTopOf c.args.scope.now.attributes.now in
    subst (λ z. Adds [] z (SomeBefore c.args.vertices.now 0 P)) (sym c.new-tops.ensures) (adds_start [] c.args.vertices.now P)

pub vertices-preserved : goal.vertices-preserved
vertices-preserved c =
    adds_more [] c.vertices.tops c.add_top.new.tops c.args.vertices.now (IsTopOf c.args.scope.now.attributes.now) c.vertices.vertex-index _
    (slice_get-get_or c.args.vertices.now c.vertices.vertex-index _ c.vertices-test.true) c.vertices.invariant c.in_ok-add_top.ensures

pub returns : goal.returns
returns c =
    let P = IsTopOf c.args.scope.now.attributes.now in
    let ended : length c.args.vertices.now ≤ c.vertices.vertex-index = omega arith in
    tops_are c.args.scope.now.attributes.now c.args.vertices.now c.vertices.tops
    (adds_to_nothing c.vertices.tops (SomeOf c.args.vertices.now P)
    (adds_all [] c.vertices.tops c.args.vertices.now P c.vertices.vertex-index ended c.vertices.invariant))
