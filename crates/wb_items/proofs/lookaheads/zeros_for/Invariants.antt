use Rattle.std.proofs.Common.{◌≡◌, length, map, replicate, take}
use Rattle.wb_items.proofs.lookaheads.zeros_for.Given as goal

abbrev pub invariant-lists : goal.invariant-lists
invariant-lists l = l.numbers.items ≡ map (λ items. replicate (length items) 0) (take l.items-index l.lists)
