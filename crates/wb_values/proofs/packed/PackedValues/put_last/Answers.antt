use Rattle.std.proofs.Common.{◌≡◌, ◌++◌, ◌∷◌, [], List, ap, ◌∙◌, arith}
use Rattle.wb_values.specs.declared.value.Value.{Value}
use Rattle.wb_values.specs.declared.value.Value.TheVariants.{Tree as Stored}
use Rattle.wb_values.specs.declared.cell.Cell.TheVariants as cell
use Rattle.wb_values.proofs.PackedLemmas.{small_rest, large_last, large_rest, small_packed, small_values}
use Rattle.wb_values.proofs.packed.PackedValues.put_last.Goals as goal

pub overflow_sub-len : goal.overflow_sub-len
overflow_sub-len c =
    let split : c.self.inside.cells.items ≡ c.take_last.new.self.items ++ cell.Large c.in-Large.field-0 c.in-Large.field-1 ∷ [] =
    c.take_last.ensures.items ∙ ap (λ x. c.take_last.new.self.items ++ x ∷ []) c.in-Large.is in
    let r = large_last c.self.inside.cells.items c.take_last.new.self.items c.in-Large.field-0 c.in-Large.field-1 c.self.inside.large.items
    c.self.invariant split in
    omega (arith, r.1, c.len.ensures, c.self.inside.large.ok.0)

pub invariant_of-self : goal.invariant_of-self
invariant_of-self c =
    let split : c.self.inside.cells.items ≡ c.take_last.new.self.items ++ cell.Large c.in-Large.field-0 c.in-Large.field-1 ∷ [] =
    c.take_last.ensures.items ∙ ap (λ x. c.take_last.new.self.items ++ x ∷ []) c.in-Large.is in
    let r = large_rest c.self.inside.cells.items c.take_last.new.self.items c.in-Large.field-0 c.in-Large.field-1 c.len.result
    c.self.inside.large.items c.args.self.now c.self.invariant c.self.view_is split (c.len.ensures ∙ c.self.inside.large.ok.0) in
    rw (c.push_reserved.ensures.items, c.truncate.ensures.items)
    (small_packed c.take_last.new.self.items _ (cell.Tree c.args.tree.0) r.packed tt)

pub invariant_of-self-in_default : goal.invariant_of-self-in_default
invariant_of-self-in_default c =
    let r = small_rest c.self.inside.cells.items c.take_last.new.self.items c.take_last.result c.self.inside.large.items c.args.self.now
    c.self.invariant c.self.view_is c.take_last.ensures.items c.in_default.not-Large in
    rw c.push_reserved-in_default.ensures.items
    (small_packed c.take_last.new.self.items c.self.inside.large.items (cell.Tree c.args.tree.0) r.packed tt)

pub returns-in-Large : goal.returns-in-Large
returns-in-Large c =
    let split : c.self.inside.cells.items ≡ c.take_last.new.self.items ++ cell.Large c.in-Large.field-0 c.in-Large.field-1 ∷ [] =
    c.take_last.ensures.items ∙ ap (λ x. c.take_last.new.self.items ++ x ∷ []) c.in-Large.is in
    let r = large_rest c.self.inside.cells.items c.take_last.new.self.items c.in-Large.field-0 c.in-Large.field-1 c.len.result
    c.self.inside.large.items c.args.self.now c.self.invariant c.self.view_is split (c.len.ensures ∙ c.self.inside.large.ok.0) in
    rw (c.push_reserved.ensures.items, c.truncate.ensures.items)
    (small_values c.take_last.new.self.items _ (cell.Tree c.args.tree.0) tt
    ∙ ap (λ (xs : List Value). xs ++ Stored c.args.tree ∷ []) r.values)

pub returns-in_default : goal.returns-in_default
returns-in_default c =
    let r = small_rest c.self.inside.cells.items c.take_last.new.self.items c.take_last.result c.self.inside.large.items c.args.self.now
    c.self.invariant c.self.view_is c.take_last.ensures.items c.in_default.not-Large in
    rw c.push_reserved-in_default.ensures.items
    (small_values c.take_last.new.self.items c.self.inside.large.items (cell.Tree c.args.tree.0) tt
    ∙ ap (λ (xs : List Value). xs ++ Stored c.args.tree ∷ []) r.values)
