use Rattle.std.proofs.Common.{◌≡◌, ◌∙◌, length, arith, sym}
use Rattle.std.proofs.lemmas.Bool.{true≢false}
use Rattle.wb_compose_kernels.proofs.FoundLemmas.{differ_at, same_lists, same_next}
use Rattle.wb_compose_kernels.proofs.numbers.are_same.Goals as goal

pub items-preserved : goal.items-preserved
items-preserved c =
    same_next c.args.one.now c.args.other.now c.items.place c.item_at-first.result c.item_at-second.result c.item_at-first.ensures c.item_at-second.ensures
    (c.is_same_item.ensures.0 c.if-not-is_same_item.false) c.items.invariant

pub returns-then-not-is_same_item : goal.returns-then-not-is_same_item
returns-then-not-is_same_item c =
    differ_at c.args.one.now c.args.other.now c.items.place c.item_at-first.result c.item_at-second.result c.item_at-first.ensures c.item_at-second.ensures
    (λ e. true≢false (sym (c.is_same_item.ensures.1 e) ∙ c.if-not-is_same_item.true))

pub returns : goal.returns
returns c =
    let done : c.items.place ≡ length c.args.one.now = omega arith in
    same_lists c.args.one.now c.args.other.now c.items.place done c.if-one-other.false c.items.invariant
