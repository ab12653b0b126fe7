use Rattle.wb_values.proofs.PackedLemmas.{small_packed, small_values}
use Rattle.std.proofs.Common.{◌++◌, ◌∷◌, [], ap, ◌∙◌}
use Rattle.wb_values.specs.Packed.{value_of}
use Rattle.wb_values.proofs.packed.PackedValues.push_cell.Goals as goal

pub invariant_of-self-2 : goal.invariant_of-self-2
invariant_of-self-2 c = rw (c.push_reserved.ensures.items, c.in_ok-reserve.ensures.items)
    (small_packed c.self.inside.cells.items c.self.inside.large.items c.args.cell c.self.invariant c.requires)

pub returns-clause-ok : goal.returns-clause-ok
returns-clause-ok c = rw (c.push_reserved.ensures.items, c.in_ok-reserve.ensures.items)
    (small_values c.self.inside.cells.items c.self.inside.large.items c.args.cell c.requires
    ∙ ap (λ vs. vs ++ value_of [] c.args.cell ∷ []) c.self.view_is)
