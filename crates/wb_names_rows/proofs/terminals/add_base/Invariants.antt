use Rattle.std.proofs.Common.{take}
use Rattle.wb_names_rows.specs.Terminals.{AddsTerminals, IsCopy, has_scanned}
use Rattle.wb_names_rows.proofs.terminals.add_base.Given as goal

abbrev pub invariant-loop-terminal : goal.invariant-loop-terminal
invariant-loop-terminal l = AddsTerminals has_scanned IsCopy (take l.terminal-index l.terminals) l.fn.made l.made
