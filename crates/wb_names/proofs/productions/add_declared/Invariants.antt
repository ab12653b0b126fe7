use Rattle.std.proofs.Common.{take}
use Rattle.wb_names_theory.specs.Declarations.{productions}
use Rattle.wb_names.specs.Inner.Bodies.{file_of}
use Rattle.wb_names.specs.Inner.Now.{IsDeclaredNow}
use Rattle.wb_names.specs.Inner.Rows.{AddsProductions, declares_concrete}
use Rattle.wb_names.proofs.productions.add_declared.Given as goal

abbrev pub invariant-loop-item : goal.invariant-loop-item
invariant-loop-item l =
    AddsProductions declares_concrete (IsDeclaredNow (file_of l.context) l.context.scope.now l.context.moves.now)
    (productions (take l.item-index l.context.file.items.now)) l.fn.made l.made
