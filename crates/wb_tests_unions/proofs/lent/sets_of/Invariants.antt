use Rattle.std.proofs.Common.{take}
use Rattle.std.specs.List.{AllZip}
use Rattle.wb_tests_unions.specs.Inner.Lent.{AreSetsFor}
use Rattle.wb_tests_unions.proofs.lent.sets_of.Given as goal

abbrev pub invariant-parts : goal.invariant-parts
invariant-parts l = AllZip AreSetsFor (take l.part-index l.parts) l.sets.items
