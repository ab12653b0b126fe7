use Rattle.std.proofs.Common.{All, take}
use Rattle.wb_types.specs.Inner.Passes.{AllPass}
use Rattle.wb_types.proofs.check.check_rule.Given as goal

abbrev pub invariant-productions : goal.invariant-productions
invariant-productions l = All (AllPass l.rule l.attributes l.operations) (take l.production-index l.production-items)
