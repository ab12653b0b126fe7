use Rattle.std.proofs.Common.{take}
use Rattle.std.specs.List.{AllZip}
use Rattle.wb_tests_unions.specs.Inner.Found.{IsFoundBeside}
use Rattle.wb_tests_unions.proofs.found.founds_of.Given as goal

abbrev pub invariant-extensions : goal.invariant-extensions
invariant-extensions l = AllZip (IsFoundBeside l.own) (take l.extension-index l.extensions) l.founds.items
