use Rattle.std.proofs.Common.{[], ◌≤◌, length, sym, subst, arith}
use Rattle.std.proofs.lemmas.Option.{slice_get-get_or}
use Rattle.wb_flow.specs.Inner.Adding.{SomeBefore, SomeOf}
use Rattle.wb_flow.specs.Adding.{Adds}
use Rattle.wb_flow.specs.Inner.Positions.{IsVertexOf}
use Rattle.wb_flow.proofs.AddingLemmas.{adds_start, adds_more, adds_all, adds_to_nothing}
use Rattle.wb_flow.proofs.vertices.vertices_of.Goals as goal

pub trees-init : goal.trees-init
trees-init c =
    let P = IsVertexOf c.args.scope.now.attributes.now in
    subst (λ z. Adds [] z (SomeBefore c.args.trees.now 0 P)) (sym c.new-vertices.ensures) (adds_start [] c.args.trees.now P)

pub trees-preserved : goal.trees-preserved
trees-preserved c =
    adds_more [] c.trees.vertices c.add_vertices.new.vertices c.args.trees.now (IsVertexOf c.args.scope.now.attributes.now) c.trees.tree-index
    _ (slice_get-get_or c.args.trees.now c.trees.tree-index _ c.trees-test.true) c.trees.invariant c.in_ok-add_vertices.ensures

pub returns : goal.returns
returns c =
    let P = IsVertexOf c.args.scope.now.attributes.now in
    let ended : length c.args.trees.now ≤ c.trees.tree-index = omega arith in
    adds_to_nothing c.trees.vertices (SomeOf c.args.trees.now P) (adds_all [] c.trees.vertices c.args.trees.now P c.trees.tree-index ended
    c.trees.invariant)
