use Rattle.std.proofs.Common.{◌≡◌, Some, sym, ap, ◌∙◌, arith, rules, w32, w64, to_z, of_z}
use Rattle.std.proofs.lemmas.List.{length-take-le}
use Rattle.std.proofs.lemmas.Int.{to_z-of_z}
use Rattle.std.proofs.lemmas.Result.{IfOk-weaker}
use Rattle.std.specs.Prelude.{FitsSigned}
use Rattle.wb_values.specs.declared.value.Value.{Value}
use Rattle.wb_values.specs.declared.value.Value.TheVariants as value
use Rattle.wb_values.specs.declared.cell.Cell.TheVariants as cell
use Rattle.wb_values.proofs.PackedLemmas.{cell_at, large_inside, large_there}
use Rattle.wb_values.proofs.packed.PackedValues.get.Goals as goal

pub slice_bounds-bytes-end : goal.slice_bounds-bytes-end
slice_bounds-bytes-end c =
    let r = cell_at c.self.inside.cells.items c.self.inside.large.items c.args.self.now c.args.place c.index.result.now
    (cell.Text c.in-Text.count c.in-Text.bytes) c.self.invariant c.self.view_is c.requires c.index.ensures c.in-Text.is in
    r.is_cell

pub slice_bounds-from_slice-end : goal.slice_bounds-from_slice-end
slice_bounds-from_slice-end c =
    let r = cell_at c.self.inside.cells.items c.self.inside.large.items c.args.self.now c.args.place c.index.result.now
    (cell.Text c.in-Text.count c.in-Text.bytes) c.self.invariant c.self.view_is c.requires c.index.ensures c.in-Text.is in
    sym (length-take-le c.in-Text.count c.in-Text.bytes r.is_cell)

pub index-requires-in-Large : goal.index-requires-in-Large
index-requires-in-Large c =
    let r = cell_at c.self.inside.cells.items c.self.inside.large.items c.args.self.now c.args.place c.index.result.now
    (cell.Large c.in-Large.high c.in-Large.low) c.self.invariant c.self.view_is c.requires c.index.ensures c.in-Large.is in
    let inside = large_inside c.self.inside.large.items c.args.self.now c.args.place c.in-Large.high c.in-Large.low r in
    omega (arith, c.place_of.ensures, inside, c.self.inside.large.ok.0)

pub returns-in-Tree : goal.returns-in-Tree
returns-in-Tree c =
    (cell_at c.self.inside.cells.items c.self.inside.large.items c.args.self.now c.args.place c.index.result.now
    (cell.Tree c.in-Tree.number) c.self.invariant c.self.view_is c.requires c.index.ensures c.in-Tree.is).there

pub returns-in-Int : goal.returns-in-Int
returns-in-Int c =
    let r = cell_at c.self.inside.cells.items c.self.inside.large.items c.args.self.now c.args.place c.index.result.now
    (cell.Int c.in-Int.number) c.self.invariant c.self.view_is c.requires c.index.ensures c.in-Int.is in
    let small : FitsSigned w32 c.in-Int.number = search rules in
    let fits : FitsSigned w64 c.in-Int.number = search (rules, small) in
    r.there ∙ ap (λ z. Some (value.Int z)) (sym (ap (λ z. to_z w64 (of_z w64 z)) (to_z-of_z w32 c.in-Int.number small)
    ∙ to_z-of_z w64 c.in-Int.number fits))

pub returns-in-Bool : goal.returns-in-Bool
returns-in-Bool c =
    (cell_at c.self.inside.cells.items c.self.inside.large.items c.args.self.now c.args.place c.index.result.now
    (cell.Bool c.in-Bool.truth) c.self.invariant c.self.view_is c.requires c.index.ensures c.in-Bool.is).there

pub returns-in_ok-from_slice-in-Text : goal.returns-in_ok-from_slice-in-Text
returns-in_ok-from_slice-in-Text c =
    let r = cell_at c.self.inside.cells.items c.self.inside.large.items c.args.self.now c.args.place c.index.result.now
    (cell.Text c.in-Text.count c.in-Text.bytes) c.self.invariant c.self.view_is c.requires c.index.ensures c.in-Text.is in
    r.there ∙ ap (λ s. Some (value.Text s)) (sym c.in_ok-from_slice-in-Text.ensures.ok)

pub returns-in-Large : goal.returns-in-Large
returns-in-Large c =
    let r = cell_at c.self.inside.cells.items c.self.inside.large.items c.args.self.now c.args.place c.index.result.now
    (cell.Large c.in-Large.high c.in-Large.low) c.self.invariant c.self.view_is c.requires c.index.ensures c.in-Large.is in
    let there = large_there c.self.inside.large.items c.args.self.now c.args.place c.in-Large.high c.in-Large.low c.place_of.result
    c.index-in-Large.result.now r c.place_of.ensures c.index-in-Large.ensures in
    let f = λ (made : Value) (e : made ≡ c.index-in-Large.result.now). there ∙ ap (λ (v : Value). Some v) (sym e) in
    IfOk-weaker c.copy.result _ _ f c.copy.ensures
