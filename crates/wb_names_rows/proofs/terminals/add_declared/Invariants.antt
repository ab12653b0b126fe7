use Rattle.std.proofs.Common.{take}
use Rattle.wb_names_theory.specs.Declarations.{lexicals}
use Rattle.wb_names_rows.specs.Terminals.{AddsTerminals, IsFoundTerminal, declares_scanned}
use Rattle.wb_names_rows.proofs.terminals.add_declared.Given as goal

abbrev pub invariant-loop-item : goal.invariant-loop-item
invariant-loop-item l = AddsTerminals declares_scanned (IsFoundTerminal l.owner) (lexicals (take l.item-index l.items)) l.fn.made l.made
