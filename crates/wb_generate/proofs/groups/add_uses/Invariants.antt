use Rattle.std.proofs.Common.{take}
use Rattle.wb_generate.specs.Inner.Groups.{AddsUses}
use Rattle.wb_generate.proofs.groups.add_uses.Given as goal

abbrev pub invariant-symbols : goal.invariant-symbols
invariant-symbols l = AddsUses (take l.symbol-index l.right) l.production l.fn.groups.items l.groups.items
