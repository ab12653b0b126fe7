use Rattle.std.proofs.Common.{◌≡◌, ◌++◌, ◌∷◌, [], ap, ◌∙◌, arith}
use Rattle.wb_values.specs.declared.cell.Cell.TheVariants as cell
use Rattle.wb_values.proofs.PackedLemmas.{small_rest, large_last, large_rest}
use Rattle.wb_values.proofs.packed.PackedValues.drop_last.Goals as goal

pub overflow_sub-len : goal.overflow_sub-len
overflow_sub-len c =
    let split : c.self.inside.cells.items ≡ c.take_last.new.self.items ++ cell.Large c.in-Large.field-0 c.in-Large.field-1 ∷ [] =
    c.take_last.ensures.items ∙ ap (λ x. c.take_last.new.self.items ++ x ∷ []) c.in-Large.is in
    let r = large_last c.self.inside.cells.items c.take_last.new.self.items c.in-Large.field-0 c.in-Large.field-1 c.self.inside.large.items
    c.self.invariant split in
    omega (arith, r.1, c.len.ensures, c.self.inside.large.ok.0)

pub invariant_of-self : goal.invariant_of-self
invariant_of-self c =
    let split : c.self.inside.cells.items ≡ c.take_last.new.self.items ++ cell.Large c.in-Large.field-0 c.in-Large.field-1 ∷ [] =
    c.take_last.ensures.items ∙ ap (λ x. c.take_last.new.self.items ++ x ∷ []) c.in-Large.is in
    rw c.truncate.ensures.items
    (large_rest c.self.inside.cells.items c.take_last.new.self.items c.in-Large.field-0 c.in-Large.field-1 c.len.result
    c.self.inside.large.items c.args.self.now c.self.invariant c.self.view_is split (c.len.ensures ∙ c.self.inside.large.ok.0)).packed

pub invariant_of-self-in_default : goal.invariant_of-self-in_default
invariant_of-self-in_default c =
    (small_rest c.self.inside.cells.items c.take_last.new.self.items c.take_last.result c.self.inside.large.items c.args.self.now
    c.self.invariant c.self.view_is c.take_last.ensures.items c.in_default.not-Large).packed

pub returns-in-Large : goal.returns-in-Large
returns-in-Large c =
    let split : c.self.inside.cells.items ≡ c.take_last.new.self.items ++ cell.Large c.in-Large.field-0 c.in-Large.field-1 ∷ [] =
    c.take_last.ensures.items ∙ ap (λ x. c.take_last.new.self.items ++ x ∷ []) c.in-Large.is in
    rw c.truncate.ensures.items
    (large_rest c.self.inside.cells.items c.take_last.new.self.items c.in-Large.field-0 c.in-Large.field-1 c.len.result
    c.self.inside.large.items c.args.self.now c.self.invariant c.self.view_is split (c.len.ensures ∙ c.self.inside.large.ok.0)).values

pub returns-in_default : goal.returns-in_default
returns-in_default c =
    (small_rest c.self.inside.cells.items c.take_last.new.self.items c.take_last.result c.self.inside.large.items c.args.self.now
    c.self.invariant c.self.view_is c.take_last.ensures.items c.in_default.not-Large).values
