use Rattle.std.proofs.Common.{◌≡◌, Some, refl, sym, ap, ◌∙◌, arith}
use Rattle.wb_values.specs.declared.value.Value.TheVariants.{Text}
use Rattle.wb_values.specs.declared.cell.Cell.TheVariants as cell
use Rattle.wb_values.specs.Packed.{value_of}
use Rattle.wb_values.proofs.PackedLemmas.{cell_at, large_inside, large_there, no_text}
use Rattle.wb_values.proofs.packed.PackedValues.text.Goals as goal

pub index-requires-in-Large : goal.index-requires-in-Large
index-requires-in-Large c =
    let r = cell_at c.self.inside.cells.items c.self.inside.large.items c.args.self.now c.args.place c.index.result.now
    (cell.Large c.in-Large.high c.in-Large.low) c.self.invariant c.self.view_is c.requires c.index.ensures c.in-Large.is in
    let inside = large_inside c.self.inside.large.items c.args.self.now c.args.place c.in-Large.high c.in-Large.low r in
    omega (arith, c.place_of.ensures, inside, c.self.inside.large.ok.0)

pub first_bytes-requires : goal.first_bytes-requires
first_bytes-requires c =
    (cell_at c.self.inside.cells.items c.self.inside.large.items c.args.self.now c.args.place c.index.result.now
    (cell.Text c.in-Text.count c.in-Text.bytes) c.self.invariant c.self.view_is c.requires c.index.ensures c.in-Text.is).is_cell

pub returns-in-Text-clause-some : goal.returns-in-Text-clause-some
returns-in-Text-clause-some c =
    (cell_at c.self.inside.cells.items c.self.inside.large.items c.args.self.now c.args.place c.index.result.now
    (cell.Text c.in-Text.count c.in-Text.bytes) c.self.invariant c.self.view_is c.requires c.index.ensures c.in-Text.is).there
    ∙ ap (λ s. Some (Text s)) (sym c.first_bytes.ensures)

pub returns-in-Text-index-clause-some : goal.returns-in-Text-index-clause-some
returns-in-Text-index-clause-some c =
    let r = cell_at c.self.inside.cells.items c.self.inside.large.items c.args.self.now c.args.place c.index.result.now
    (cell.Large c.in-Large.high c.in-Large.low) c.self.invariant c.self.view_is c.requires c.index.ensures c.in-Large.is in
    large_there c.self.inside.large.items c.args.self.now c.args.place c.in-Large.high c.in-Large.low c.place_of.result
    c.index-in-Large.result.now r c.place_of.ensures c.index-in-Large.ensures ∙ ap (λ v. Some v) c.in-Text-index.is
    ∙ ap (λ s. Some (Text s)) (sym c.as_slice.ensures)

pub returns-in_default-index : goal.returns-in_default-index
returns-in_default-index c =
    let r = cell_at c.self.inside.cells.items c.self.inside.large.items c.args.self.now c.args.place c.index.result.now
    (cell.Large c.in-Large.high c.in-Large.low) c.self.invariant c.self.view_is c.requires c.index.ensures c.in-Large.is in
    let there = large_there c.self.inside.large.items c.args.self.now c.args.place c.in-Large.high c.in-Large.low c.place_of.result
    c.index-in-Large.result.now r c.place_of.ensures c.index-in-Large.ensures in
    record {
      some = tt;
      none = λ text h.
          let e : Some c.index-in-Large.result.now ≡ Some (Text text) = sym there ∙ h in
          let f : c.index-in-Large.result.now ≡ Text text = cc in
          c.in_default-index.not-Text text f;
    }

pub returns-in_default : goal.returns-in_default
returns-in_default c =
    let r = cell_at c.self.inside.cells.items c.self.inside.large.items c.args.self.now c.args.place c.index.result.now
    c.index.result.now c.self.invariant c.self.view_is c.requires c.index.ensures refl in
    record {
      some = tt;
      none = λ text h.
          let e : Some (value_of c.self.inside.large.items c.index.result.now) ≡ Some (Text text) = sym r.there ∙ h in
          let f : value_of c.self.inside.large.items c.index.result.now ≡ Text text = cc in
          no_text c.self.inside.large.items c.index.result.now text c.in_default.not-Text c.in_default.not-Large f;
    }
