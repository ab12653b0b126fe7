use Rattle.std.proofs.Common.{◌≡◌, map, take}
use Rattle.wb_compose_theory.specs.Renamings.{renamed_item}
use Rattle.wb_compose_kernels.specs.Inner.Blocks.{names_by}
use Rattle.wb_compose_kernels.proofs.blocks.items_in_union.Given as goal

abbrev pub invariant-items : goal.invariant-items
invariant-items l = l.made.items ≡ map (renamed_item (names_by l.blocks)) (take l.item-index l.items)
