use Rattle.std.proofs.Common.{◌≡◌, ◌++◌, take}
use Rattle.wb_names_theory.specs.Uses.{uses}
use Rattle.wb_names_lists.proofs.uses.add_uses.Given as goal

abbrev pub invariant-items : goal.invariant-items
invariant-items l = l.out.items ≡ l.fn.out.items ++ uses (take l.item-index l.items)
