use Rattle.std.proofs.Common.{take}
use Rattle.wb_compose_attributes.specs.Inner.Filled.{Leading}
use Rattle.wb_compose_attributes.proofs.lists.add_leading.Given as goal

abbrev pub invariant-placed : goal.invariant-placed
invariant-placed l = Leading l.host (take l.extension-index l.host.placed.now) l.made
