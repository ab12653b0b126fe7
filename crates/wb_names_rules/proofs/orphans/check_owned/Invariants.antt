use Rattle.std.proofs.Common.{All, take}
use Rattle.wb_names_theory.specs.NamesOk.{bounds_of}
use Rattle.wb_names_rules.specs.Inner.Owners.{MayDeclare}
use Rattle.wb_names_rules.proofs.orphans.check_owned.Given as goal

abbrev pub invariant-own : goal.invariant-own
invariant-own l = All (MayDeclare l.index l.from (bounds_of l.base l.format)) (take l.declaration-index l.own)
