use Rattle.std.proofs.Common.{◌≡◌, ◌++◌, take}
use Rattle.wb_names_theory.specs.Declares.{item_declarations}
use Rattle.wb_names_lists.proofs.items.add_item_declarations.Given as goal

abbrev pub invariant-items : goal.invariant-items
invariant-items l = l.out.items ≡ l.fn.out.items ++ item_declarations (take l.item-index l.items)
