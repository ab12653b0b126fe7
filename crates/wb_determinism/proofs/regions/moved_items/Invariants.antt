use Rattle.std.proofs.Common.{◌≡◌, map, take}
use Rattle.wb_determinism.specs.Numbers.{item_up}
use Rattle.wb_determinism.proofs.regions.moved_items.Given as goal

abbrev pub invariant-items : goal.invariant-items
invariant-items l = map (item_up l.numbers) l.moved.items ≡ take l.item-index l.items
