use Rattle.std.proofs.Common.{◌≡◌, ◌++◌, take}
use Rattle.wb_names_theory.specs.WrongKind.{misplaced}
use Rattle.wb_names_lists.proofs.place.add_misplaced.Given as goal

abbrev pub invariant-items : goal.invariant-items
invariant-items l = l.out.items ≡ l.fn.out.items ++ misplaced l.owner (take l.item-index l.items)
