use Rattle.std.proofs.Common.{length, get_or, arith}
use Rattle.std.proofs.lemmas.Option.{slice_get-get_or}
use Rattle.wb_grammar_theory.specs.declared.item.Item.{Item}
use Rattle.wb_items.proofs.InOrderLemmas.{first_here, same_here, all_follow, none_follow, agree_turned}
use Rattle.wb_determinism_kernels.proofs.compare.compare_in_order.Goals as goal

start : Item
start = record { production = 0; dot = 0 }

pub returns-then-place-items : goal.returns-then-place-items
returns-then-place-items c =
    let item = get_or c.args.kernel.now c.places.place start in
    first_here c.args.kernel.now c.args.items.now c.places.place item c.requires.kernel c.places.invariant
    (slice_get-get_or c.args.kernel.now c.places.place start c.places-test.true)
    (none_follow c.args.items.now c.places.place item c.if-place-items.true)

pub returns-in-Less : goal.returns-in-Less
returns-in-Less c =
    first_here c.args.kernel.now c.args.items.now c.places.place c.item_at.result c.requires.kernel c.places.invariant c.item_at.ensures
    (all_follow c.args.items.now c.places.place c.item_at.result c.item_at-in-places.result c.requires.items c.item_at-in-places.ensures
    c.in-Less.ensures)

pub returns-in-Greater : goal.returns-in-Greater
returns-in-Greater c =
    first_here c.args.items.now c.args.kernel.now c.places.place c.item_at-in-places.result c.requires.items
    (agree_turned c.args.kernel.now c.args.items.now c.places.place c.places.invariant) c.item_at-in-places.ensures
    (all_follow c.args.kernel.now c.places.place c.item_at-in-places.result c.item_at.result c.requires.kernel c.item_at.ensures
    c.in-Greater.ensures)

pub returns-then-kernel-items : goal.returns-then-kernel-items
returns-then-kernel-items c =
    let n = length c.args.kernel.now in
    let item = get_or c.args.items.now n start in
    first_here c.args.items.now c.args.kernel.now n item c.requires.items
    (λ k lt. agree_turned c.args.kernel.now c.args.items.now c.places.place c.places.invariant k (omega (arith, c.places-test.false)))
    (slice_get-get_or c.args.items.now n start c.if-kernel-items.true) (none_follow c.args.kernel.now n item (omega arith))

pub returns-else-kernel-items : goal.returns-else-kernel-items
returns-else-kernel-items c =
    same_here c.args.kernel.now c.args.items.now c.places.place (omega (arith, c.places-test.false))
    (omega (arith, c.places-test.false, c.if-kernel-items.false))
    c.places.invariant
