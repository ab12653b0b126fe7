use Rattle.std.proofs.Common.{take}
use Rattle.std.specs.List.{AllZip}
use Rattle.wb_tests_unions.specs.Inner.Lent.{IsPartFrom}
use Rattle.wb_tests_unions.proofs.lent.parts_of.Given as goal

abbrev pub invariant-lents : goal.invariant-lents
invariant-lents l = AllZip IsPartFrom (take l.lent-index l.lents) l.parts.items
