use Rattle.std.proofs.Common.{◌≡◌, ◌∙◌, List, Some, length, get_or, slice_get, subst, ap, arith}
use Rattle.std.proofs.lemmas.Option.{slice_get-get_or}
use Rattle.wb_flow.specs.declared.vertex.Vertex.TheVariants.{LocalTree}
use Rattle.wb_flow.specs.Inner.Adding.{SomeBelow}
use Rattle.wb_flow.specs.Adding.{Adds}
use Rattle.wb_flow.specs.Inner.Arrows.{IsLocalArrow, IsExpressionArrow}
use Rattle.wb_flow.proofs.AddingLemmas.{adds_start_below, adds_more_below}
use Rattle.wb_flow.proofs.KindLemmas.{local_one}
use Rattle.wb_syntax_resolved.specs.declared.production.Local.{Local}
use Rattle.wb_flow.proofs.arrows.add_locals.Goals as goal

pub locals-init : goal.locals-init
locals-init c = adds_start_below c.args.arrows.now.items (IsLocalArrow c.args.production.now)

pub locals-preserved : goal.locals-preserved
locals-preserved c =
    let items = c.as_slice-locals.result.now in
    let l = get_or items c.locals.local c.index-locals-local.result in
    let there = slice_get-get_or items c.locals.local c.index-locals-local.result c.locals-test.true in
    adds_more_below c.args.arrows.now.items c.locals.arrows.items c.add_expression.new.arrows.items (IsLocalArrow c.args.production.now)
    c.locals.local c.locals.invariant
    (local_one c.args.production.now c.locals.arrows.items c.add_expression.new.arrows.items c.locals.local l
    (subst (λ (z : List Local). slice_get z c.locals.local ≡ Some l) c.as_slice-locals.ensures there)
    (subst (λ z. Adds c.locals.arrows.items c.add_expression.new.arrows.items (IsExpressionArrow (LocalTree c.locals.local) z))
    c.as_slice.ensures c.in_ok-add_expression.ensures))

pub returns : goal.returns
returns c =
    let items = c.as_slice-locals.result.now in
    let ended : c.locals.local ≡ length items = omega arith in
    subst (λ n. Adds c.args.arrows.now.items c.locals.arrows.items (SomeBelow n (IsLocalArrow c.args.production.now)))
    (ended ∙ ap length c.as_slice-locals.ensures) c.locals.invariant
