use Rattle.std.proofs.Common.{◌≡◌, ◌++◌, take}
use Rattle.wb_explain_readings.specs.Inner.Leaves.{leaves}
use Rattle.wb_explain_readings.proofs.text.put_terminals.Given as goal

abbrev pub invariant-pieces : goal.invariant-pieces
invariant-pieces l = l.made.items ≡ l.initial.made.items ++ leaves (take l.piece-index l.pieces)
