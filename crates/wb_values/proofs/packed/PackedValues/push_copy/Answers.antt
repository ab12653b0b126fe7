use Rattle.std.proofs.Common.{Some, refl, sym, ap, ◌∙◌, arith}
use Rattle.wb_values.specs.declared.value.Value.{Value}
use Rattle.wb_values.specs.declared.cell.Cell.TheVariants as cell
use Rattle.wb_values.proofs.CallerLemmas.{one_at}
use Rattle.wb_values.proofs.PackedLemmas.{cell_at, large_inside, large_there, small_at}
use Rattle.wb_values.proofs.packed.PackedValues.push_copy.Goals as goal

pub index-requires-in-Large : goal.index-requires-in-Large
index-requires-in-Large c =
    let r = cell_at c.values.inside.cells.items c.values.inside.large.items c.args.values.now c.args.place c.index.result.now
    (cell.Large c.in-Large.high c.in-Large.low) c.values.invariant c.values.view_is c.requires c.index.ensures c.in-Large.is in
    let inside = large_inside c.values.inside.large.items c.args.values.now c.args.place c.in-Large.high c.in-Large.low r in
    omega (arith, c.place_of.ensures, inside, c.values.inside.large.ok.0)

pub push_cell-requires : goal.push_cell-requires
push_cell-requires c =
    let r = cell_at c.values.inside.cells.items c.values.inside.large.items c.args.values.now c.args.place c.index.result.now
    c.index.result.now c.values.invariant c.values.view_is c.requires c.index.ensures refl in
    (small_at c.values.inside.large.items c.args.values.now c.args.place c.index.result.now r c.in_default.not-Large).0

pub returns-in_ok-copy-in-Large-clause-ok : goal.returns-in_ok-copy-in-Large-clause-ok
returns-in_ok-copy-in-Large-clause-ok c =
    let r = cell_at c.values.inside.cells.items c.values.inside.large.items c.args.values.now c.args.place c.index.result.now
    (cell.Large c.in-Large.high c.in-Large.low) c.values.invariant c.values.view_is c.requires c.index.ensures c.in-Large.is in
    let there = large_there c.values.inside.large.items c.args.values.now c.args.place c.in-Large.high c.in-Large.low c.place_of.result
    c.index-in-Large.result.now r c.place_of.ensures c.index-in-Large.ensures in
    let one = one_at c.args.values.now c.args.place c.in_ok-copy-in-Large.field-0
    (there ∙ ap (λ (v : Value). Some v) (sym c.in_ok-copy-in-Large.ensures)) in
    rw one c.push_large.ensures.ok

pub returns-in_default : goal.returns-in_default
returns-in_default c =
    let r = cell_at c.values.inside.cells.items c.values.inside.large.items c.args.values.now c.args.place c.index.result.now
    c.index.result.now c.values.invariant c.values.view_is c.requires c.index.ensures refl in
    let one = (small_at c.values.inside.large.items c.args.values.now c.args.place c.index.result.now r c.in_default.not-Large).1 in
    rw one c.push_cell.ensures
