use Rattle.std.proofs.Common.{All, take}
use Rattle.wb_names_rules.specs.Inner.Tests.{IsKnown}
use Rattle.wb_names_rules.proofs.unknown.check_declared.Given as goal

abbrev pub invariant-usages : goal.invariant-usages
invariant-usages l = All (IsKnown l.index) (take l.usage-index l.used)
