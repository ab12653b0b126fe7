use Rattle.std.proofs.Common.{take}
use Rattle.std.specs.List.{AllZip}
use Rattle.wb_compose.specs.Inner.Lending.{IsLent}
use Rattle.wb_compose.proofs.additions.additions_of.Given as goal

abbrev pub invariant-extensions : goal.invariant-extensions
invariant-extensions l = AllZip IsLent (take l.extension-index l.extensions) l.additions.items
