use Rattle.std.proofs.Common.{take}
use Rattle.std.specs.List.{AllZip}
use Rattle.wb_tests_unions.specs.Inner.Lent.{IsAdded}
use Rattle.wb_tests_unions.proofs.additions.additions_of.Given as goal

abbrev pub invariant-extensions : goal.invariant-extensions
invariant-extensions l = AllZip IsAdded (take l.extension-index l.extensions) l.additions.items
