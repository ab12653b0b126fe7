use Rattle.std.proofs.Common.{◌≡◌, List, Option, Some, All, take, get_or, slice_get, subst, sym, ap, ◌∙◌}
use Rattle.std.proofs.lemmas.List.Elements.{Contains-get_or}
use Rattle.std.proofs.lemmas.Option.{slice_get-get_or}
use Rattle.wb_syntax.specs.declared.expression.Equation.{Equation}
use Rattle.wb_syntax.specs.declared.item.Item.{Item}
use Rattle.wb_syntax.specs.declared.pattern.Pattern.{Pattern}
use Rattle.wb_syntax.specs.Equations.{equations_of}
use Rattle.wb_names_rows.specs.Blocks.{equations_at, equations_in, AddsBody}
use Rattle.wb_names_rows.specs.Nodes.{EquationIsThere}
use Rattle.wb_names_rows.proofs.BlockLemmas.{equations_more, body_append}
use Rattle.wb_names_rows.proofs.body.add_all.Goals as goal

pub add_item-requires : goal.add_item-requires
add_item-requires c =
    let items = c.args.items.now in
    let place = get_or c.args.places.now c.loop-place.place-index 0 in
    let item = c.index-items-place.result in
    let at : slice_get items place ≡ Some item =
    slice_get-get_or items place item (c.requires.within c.loop-place.place-index 0 c.loop-place-test.true)
    ∙ ap Some (sym c.index-items-place.is) in
    subst (λ (z : Option (Item Pattern)). All (EquationIsThere c.args.scope.now c.args.labels.now) (equations_in z)) at (c.requires.names
    place (Contains-get_or c.args.places.now c.loop-place.place-index 0 c.loop-place-test.true))

pub loop-place-preserved : goal.loop-place-preserved
loop-place-preserved c =
    let items = c.args.items.now in
    let places = c.args.places.now in
    let i = c.loop-place.place-index in
    let item = c.index-items-place.result in
    let more = equations_more items places i item c.loop-place-test.true (c.requires.within i 0 c.loop-place-test.true)
    c.index-items-place.is in
    subst (λ (z : List Equation). AddsBody c.args.scope.now c.args.labels.now z c.args.body.now c.add_item.new.body) (sym more)
    (body_append c.args.scope.now c.args.labels.now (equations_at items (take i places)) (equations_of item.form) c.args.body.now
    c.loop-place.body
    c.add_item.new.body c.loop-place.invariant c.in_ok-add_item.ensures)
