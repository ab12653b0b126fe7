use Rattle.std.proofs.Common.{◌≡◌, ◌+◌, ◌∷◌, [], length, length-append, map, replicate, sym, ◌∙◌, ap, subst, arith}
use Rattle.wb_base.specs.Grammar.{GrammarView}
use Rattle.wb_items.proofs.KernelNumbers.{one_numbered, one_wide}
use Rattle.wb_items.proofs.lookaheads.Lookaheads.with_one_set.Goals as goal

pub invariant_of-result : goal.invariant_of-result
invariant_of-result c =
    one_numbered c.in_ok-items.items.items c.in_ok-numbers.numbers.items c.push.new.list.items
    (subst (λ z. c.in_ok-numbers.numbers.items ≡ map (λ row. replicate (length row) 0) z) c.deref.ensures.value c.in_ok-numbers.ensures)
    (let e = ap length c.in_ok-push.ensures.ok in let f = length-append c.new-sets.result.items (c.in_ok-new.field-0 ∷ []) in
    omega (arith, e, f)) c.in_ok-items.ensures.in_order

pub returns-clause-items : goal.returns-clause-items
returns-clause-items c = record {
  items = c.in_ok-items.ensures.is;
  numbered = one_numbered c.in_ok-items.items.items c.in_ok-numbers.numbers.items c.push.new.list.items
      (subst (λ z. c.in_ok-numbers.numbers.items ≡ map (λ row. replicate (length row) 0) z) c.deref.ensures.value c.in_ok-numbers.ensures)
      (let e = ap length c.in_ok-push.ensures.ok in let f = length-append c.new-sets.result.items (c.in_ok-new.field-0 ∷ []) in
      omega (arith, e, f)) c.in_ok-items.ensures.in_order;
  widths = one_wide c.new-sets.result.items c.push.new.list.items c.in_ok-new.field-0 c.in_ok-lookahead_count.field-0
      c.new-sets.ensures.items c.in_ok-push.ensures.ok c.in_ok-new.ensures
      (c.in_ok-lookahead_count.ensures.count ∙ ap (λ (g : GrammarView). g.terminals + 1) (sym c.requires));
}
