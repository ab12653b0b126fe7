use Rattle.std.proofs.Common.{◌≡◌, ◌++◌, Some, map, take}
use Rattle.wb_explain_readings.proofs.tree.has_right.Given as goal

abbrev pub invariant-symbols : goal.invariant-symbols
invariant-symbols l = l.initial.stack ≡ map Some (take l.symbol-index l.right) ++ l.stack
