use Rattle.wb_generate.specs.Inner.Groups.{AreUsesBefore}
use Rattle.wb_generate.proofs.groups.uses.Given as goal

abbrev pub invariant-productions : goal.invariant-productions
invariant-productions l = AreUsesBefore l.grammar l.production l.groups.items
