use Rattle.std.proofs.Common.{◌≡◌, ◌≤◌, ◌∙◌, Some, ap, length, refl, slice_get, sym, arith}
use Rattle.std.proofs.lemmas.Option.{slice_get-get_or}
use Rattle.wb_lemmas.proofs.Elements.{all_at}
use Rattle.wb_items.specs.declared.item_lookahead.ItemLookahead.{ItemLookahead}
use Rattle.wb_determinism.proofs.ApartLemmas.{taken_start, taken_more, taken_all}
use Rattle.wb_determinism.proofs.apart.take_all.Goals as goal

pub items-init : goal.items-init
items-init c = taken_start c.args.grammar.now c.args.taken.now c.args.row.now

pub take_item-requires : goal.take_item-requires
take_item-requires c =
    let row = c.args.row.now in
    let i = c.items.looks-index in
    let looks = c.looks-item.result in
    let at : slice_get row i ≡ Some looks = slice_get-get_or row i looks c.items-test.true ∙ ap Some (sym c.looks-item.is) in
    all_at (λ (one : ItemLookahead). length one.set ≡ length c.args.taken.now) row i looks c.requires at ∙ sym c.items.invariant.len

pub items-preserved : goal.items-preserved
items-preserved c =
    let row = c.args.row.now in
    let i = c.items.looks-index in
    let looks = c.looks-item.result in
    let at : slice_get row i ≡ Some looks = slice_get-get_or row i looks c.items-test.true ∙ ap Some (sym c.looks-item.is) in
    taken_more c.args.grammar.now c.args.taken.now row i looks at c.items.taken c.take_item.new.taken c.items.invariant
    (c.if-not-take_item.ensures refl)

pub returns : goal.returns
returns c apart =
    let ended : length c.args.row.now ≤ c.items.looks-index = omega (arith, c.items-test.false) in
    taken_all c.args.grammar.now c.args.taken.now c.args.row.now c.items.looks-index c.items.taken ended c.items.invariant
