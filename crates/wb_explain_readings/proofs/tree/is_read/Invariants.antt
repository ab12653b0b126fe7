use Rattle.std.proofs.Common.{◌-◌, drop, length}
use Rattle.wb_explain_readings.specs.Inner.Frames.{Holds}
use Rattle.wb_explain_readings.proofs.tree.is_read.Given as goal

abbrev pub invariant-pieces : goal.invariant-pieces
invariant-pieces l = Holds l.grammar l.stack (drop (length l.pieces - l.after) l.pieces)
