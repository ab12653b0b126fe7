use Rattle.std.proofs.Common.{take}
use Rattle.wb_generate.specs.Inner.Groups.{AreLeftGroups}
use Rattle.wb_generate.proofs.groups.by_left.Given as goal

abbrev pub invariant-productions : goal.invariant-productions
invariant-productions l = AreLeftGroups l.grammar (take l.production l.grammar.productions) l.groups.items
