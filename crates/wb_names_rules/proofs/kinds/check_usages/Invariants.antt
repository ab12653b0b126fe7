use Rattle.std.proofs.Common.{All, take}
use Rattle.wb_names_rules.specs.Inner.Tests.{IsOfKind}
use Rattle.wb_names_rules.proofs.kinds.check_usages.Given as goal

abbrev pub invariant-usages : goal.invariant-usages
invariant-usages l = All (IsOfKind l.index) (take l.usage-index l.used)
