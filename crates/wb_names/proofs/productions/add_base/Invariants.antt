use Rattle.std.proofs.Common.{take}
use Rattle.wb_names.specs.Inner.Bodies.{file_of}
use Rattle.wb_names.specs.Inner.Now.{IsExtendedNow}
use Rattle.wb_names.specs.Inner.Rows.{AddsProductions, has_concrete}
use Rattle.wb_names.proofs.productions.add_base.Given as goal

abbrev pub invariant-loop-production : goal.invariant-loop-production
invariant-loop-production l =
    AddsProductions has_concrete (IsExtendedNow (file_of l.context) l.context.scope.now l.context.moves.now)
    (take l.production-index l.context.file.base.now.attributes.productions) l.fn.made l.made
