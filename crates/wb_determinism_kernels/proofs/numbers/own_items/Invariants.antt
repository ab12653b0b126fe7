use Rattle.std.proofs.Common.{◌≡◌, map, take}
use Rattle.wb_compose_theory.specs.Renamings.{renamed_item}
use Rattle.wb_determinism_kernels.specs.Numbers.{up_by}
use Rattle.wb_determinism_kernels.proofs.numbers.own_items.Given as goal

abbrev pub invariant-items : goal.invariant-items
invariant-items l = map (renamed_item (up_by l.numbers)) l.own.items ≡ take l.item-index l.items
