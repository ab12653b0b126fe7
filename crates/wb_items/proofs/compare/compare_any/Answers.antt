use Rattle.std.proofs.Common.{◌≡◌, ◌∙◌, length, sym, subst, arith}
use Rattle.std.proofs.lemmas.Bool.{true≢false}
use Rattle.wb_items.specs.Inner.Searches.{AgreeUpTo}
use Rattle.wb_items.proofs.CompareLemmas.{kernel_goes_on, kernel_less, items_less, agree_more, items_go_on, both_end}
use Rattle.wb_items.proofs.compare.compare_any.Goals as goal

pub returns-in_default : goal.returns-in_default
returns-in_default c =
    kernel_goes_on c.args.kernel.now c.args.items.now c.places.place c.item_at-item.result c.requires c.item_at-item.ensures
    c.places.invariant c.in_default.ensures

pub returns-then-precedes : goal.returns-then-precedes
returns-then-precedes c =
    kernel_less c.args.kernel.now c.args.items.now c.places.place c.item_at-item.result c.requires c.item_at-item.ensures c.places.invariant
    c.in-Some.found c.in-Some.ensures (c.precedes.ensures.0 c.if-precedes.true)

pub returns-then-precedes-2 : goal.returns-then-precedes-2
returns-then-precedes-2 c =
    items_less c.args.kernel.now c.args.items.now c.places.place c.item_at-item.result c.requires c.item_at-item.ensures c.places.invariant
    c.in-Some.found c.in-Some.ensures (c.precedes-in-places.ensures.0 c.if-precedes-2.true)

pub places-preserved : goal.places-preserved
places-preserved c =
    agree_more c.args.kernel.now c.args.items.now c.places.place c.item_at-item.result c.requires c.item_at-item.ensures c.places.invariant
    c.in-Some.found c.in-Some.ensures
    (λ lt. true≢false (sym (c.precedes.ensures.1 lt) ∙ c.if-precedes.false))
    (λ gt. true≢false (sym (c.precedes-in-places.ensures.1 gt) ∙ c.if-precedes-2.false))

pub returns-in-Some-least_after : goal.returns-in-Some-least_after
returns-in-Some-least_after c =
    let e : c.places.place ≡ length c.args.kernel.now = omega arith in
    items_go_on c.args.kernel.now c.args.items.now (length c.args.kernel.now) c.requires (omega arith) (omega arith)
    (subst (AgreeUpTo c.args.kernel.now c.args.items.now) e c.places.invariant) c.in-Some-least_after.field-0 c.in-Some-least_after.ensures

pub returns-in-None : goal.returns-in-None
returns-in-None c =
    let e : c.places.place ≡ length c.args.kernel.now = omega arith in
    both_end c.args.kernel.now c.args.items.now (length c.args.kernel.now) c.requires (omega arith) (omega arith)
    (subst (AgreeUpTo c.args.kernel.now c.args.items.now) e c.places.invariant) c.in-None.ensures
