use Rattle.std.proofs.Common.{◌≤◌, [], length, sym, subst, arith}
use Rattle.std.proofs.lemmas.Option.{slice_get-get_or}
use Rattle.wb_flow.specs.Inner.Adding.{SomeBefore, SomeOf}
use Rattle.wb_flow.specs.Adding.{Adds}
use Rattle.wb_flow.specs.Inner.Arrows.{IsNumbered}
use Rattle.wb_flow.proofs.AddingLemmas.{adds_one, adds_start, adds_more, adds_all, adds_to_nothing}
use Rattle.wb_flow.proofs.GraphLemmas.{adds_numbered, ends_read}
use Rattle.wb_flow.proofs.graph.edges_of.Goals as goal

pub arrows-init : goal.arrows-init
arrows-init c =
    subst (λ z. Adds [] z (SomeBefore c.args.arrows.now 0 (IsNumbered c.args.vertices.now))) (sym c.new-edges.ensures.items)
    (adds_start [] c.args.arrows.now (IsNumbered c.args.vertices.now))

pub number-requires : goal.number-requires
number-requires c = (ends_read c.args.vertices.now c.args.arrows.now c.requires c.arrows.arrow-index _ c.arrows-test.true).0

pub number-requires-in-arrows : goal.number-requires-in-arrows
number-requires-in-arrows c = (ends_read c.args.vertices.now c.args.arrows.now c.requires c.arrows.arrow-index _ c.arrows-test.true).1

pub arrows-preserved : goal.arrows-preserved
arrows-preserved c =
    adds_more [] c.arrows.edges.items c.push.new.list.items c.args.arrows.now (IsNumbered c.args.vertices.now) c.arrows.arrow-index _
    (slice_get-get_or c.args.arrows.now c.arrows.arrow-index _ c.arrows-test.true) c.arrows.invariant
    (adds_numbered c.arrows.edges.items c.push.new.list.items c.args.vertices.now c.number.ensures.different _ c.number.result
    c.number-in-arrows.result c.number.ensures.at c.number-in-arrows.ensures.at
    (adds_one c.arrows.edges.items c.push.new.list.items (c.number.result, c.number-in-arrows.result) c.in_ok-push.ensures.ok))

pub returns : goal.returns
returns c =
    let ended : length c.args.arrows.now ≤ c.arrows.arrow-index = omega arith in
    adds_to_nothing c.arrows.edges.items (SomeOf c.args.arrows.now (IsNumbered c.args.vertices.now))
    (adds_all [] c.arrows.edges.items c.args.arrows.now (IsNumbered c.args.vertices.now) c.arrows.arrow-index ended c.arrows.invariant)
