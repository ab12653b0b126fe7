use Rattle.std.proofs.Common.{◌≤◌, ℕ, List, length, get_or, subst, arith}
use Rattle.std.proofs.lemmas.Option.{slice_get-get_or}
use Rattle.wb_flow.specs.Inner.Adding.{SomeOf}
use Rattle.wb_flow.specs.Adding.{Adds}
use Rattle.wb_flow.specs.Inner.Arrows.{IsNeedArrow}
use Rattle.wb_flow.proofs.AddingLemmas.{adds_start, adds_more, adds_all}
use Rattle.wb_flow.proofs.KindLemmas.{need_one}
use Rattle.wb_flow.proofs.arrows.add_flow_type.Goals as goal

pub needs-init : goal.needs-init
needs-init c =
    adds_start c.args.arrows.now.items c.as_slice-inherited-items.result.now (IsNeedArrow c.args.position c.args.occurrence.now.attribute)

pub needs-preserved : goal.needs-preserved
needs-preserved c =
    let items = c.as_slice-inherited-items.result.now in
    let i = get_or items c.needs.inherited-index 0 in
    adds_more c.args.arrows.now.items c.needs.arrows.items c.push.new.list.items items
    (IsNeedArrow c.args.position c.args.occurrence.now.attribute) c.needs.inherited-index i
    (slice_get-get_or items c.needs.inherited-index 0 c.needs-test.true) c.needs.invariant
    (need_one c.needs.arrows.items c.push.new.list.items c.args.position c.args.occurrence.now.attribute i c.vertex-from.result c.vertex.result
    c.vertex-from.ensures c.vertex.ensures c.in_ok-push.ensures.ok)

pub returns : goal.returns
returns c =
    let items = c.as_slice-inherited-items.result.now in
    let ended : length items ≤ c.needs.inherited-index = omega arith in
    subst (λ (z : List ℕ). Adds c.args.arrows.now.items c.needs.arrows.items
    (SomeOf z (IsNeedArrow c.args.position c.args.occurrence.now.attribute))) c.as_slice-inherited-items.ensures
    (adds_all c.args.arrows.now.items c.needs.arrows.items items (IsNeedArrow c.args.position c.args.occurrence.now.attribute)
    c.needs.inherited-index ended c.needs.invariant)
