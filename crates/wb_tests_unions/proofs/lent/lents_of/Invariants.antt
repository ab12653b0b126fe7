use Rattle.std.proofs.Common.{take}
use Rattle.std.specs.List.{AllZip}
use Rattle.wb_tests_unions.specs.Inner.Lent.{IsLentFrom}
use Rattle.wb_tests_unions.proofs.lent.lents_of.Given as goal

abbrev pub invariant-founds : goal.invariant-founds
invariant-founds l = AllZip (IsLentFrom l.own) (take l.found-index l.founds) l.lents.items
