use Rattle.std.proofs.Common.{◌≡◌, Some, refl, sym, ap, ◌∙◌, arith}
use Rattle.wb_values.specs.declared.value.Value.TheVariants.{Tree as Stored}
use Rattle.wb_values.specs.declared.cell.Cell.TheVariants as cell
use Rattle.wb_values.specs.Packed.{value_of}
use Rattle.wb_values.proofs.PackedLemmas.{cell_at, large_inside, large_there, no_tree}
use Rattle.wb_values.proofs.packed.PackedValues.tree.Goals as goal

pub index-requires-in-Large : goal.index-requires-in-Large
index-requires-in-Large c =
    let r = cell_at c.self.inside.cells.items c.self.inside.large.items c.args.self.now c.args.place c.index.result.now
    (cell.Large c.in-Large.high c.in-Large.low) c.self.invariant c.self.view_is c.requires c.index.ensures c.in-Large.is in
    let inside = large_inside c.self.inside.large.items c.args.self.now c.args.place c.in-Large.high c.in-Large.low r in
    omega (arith, c.place_of.ensures, inside, c.self.inside.large.ok.0)

pub returns-in-Tree-clause-some : goal.returns-in-Tree-clause-some
returns-in-Tree-clause-some c =
    (cell_at c.self.inside.cells.items c.self.inside.large.items c.args.self.now c.args.place c.index.result.now
    (cell.Tree c.in-Tree.number) c.self.invariant c.self.view_is c.requires c.index.ensures c.in-Tree.is).there

pub returns-in-Tree-index-clause-some : goal.returns-in-Tree-index-clause-some
returns-in-Tree-index-clause-some c =
    let r = cell_at c.self.inside.cells.items c.self.inside.large.items c.args.self.now c.args.place c.index.result.now
    (cell.Large c.in-Large.high c.in-Large.low) c.self.invariant c.self.view_is c.requires c.index.ensures c.in-Large.is in
    large_there c.self.inside.large.items c.args.self.now c.args.place c.in-Large.high c.in-Large.low c.place_of.result
    c.index-in-Large.result.now r c.place_of.ensures c.index-in-Large.ensures ∙ ap (λ v. Some v) c.in-Tree-index.is

pub returns-in_default-index : goal.returns-in_default-index
returns-in_default-index c =
    let r = cell_at c.self.inside.cells.items c.self.inside.large.items c.args.self.now c.args.place c.index.result.now
    (cell.Large c.in-Large.high c.in-Large.low) c.self.invariant c.self.view_is c.requires c.index.ensures c.in-Large.is in
    let there = large_there c.self.inside.large.items c.args.self.now c.args.place c.in-Large.high c.in-Large.low c.place_of.result
    c.index-in-Large.result.now r c.place_of.ensures c.index-in-Large.ensures in
    record {
      some = tt;
      none = λ tree h.
          let e : Some c.index-in-Large.result.now ≡ Some (Stored tree) = sym there ∙ h in
          let f : c.index-in-Large.result.now ≡ Stored tree = cc in
          c.in_default-index.not-Tree tree f;
    }

pub returns-in_default : goal.returns-in_default
returns-in_default c =
    let r = cell_at c.self.inside.cells.items c.self.inside.large.items c.args.self.now c.args.place c.index.result.now
    c.index.result.now c.self.invariant c.self.view_is c.requires c.index.ensures refl in
    record {
      some = tt;
      none = λ tree h.
          let e : Some (value_of c.self.inside.large.items c.index.result.now) ≡ Some (Stored tree) = sym r.there ∙ h in
          let f : value_of c.self.inside.large.items c.index.result.now ≡ Stored tree = cc in
          no_tree c.self.inside.large.items c.index.result.now tree c.in_default.not-Tree c.in_default.not-Large f;
    }
