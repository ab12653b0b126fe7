use Rattle.std.proofs.Common.{length}
use Rattle.wb_session_edits.specs.Inner.Progress.{HasRead}
use Rattle.wb_session_edits.proofs.read.read_all.Given as goal

abbrev pub invariant-lines : goal.invariant-lines
invariant-lines l = HasRead l.text l.left l.edits.items

abbrev pub decreases-lines : goal.decreases-lines
decreases-lines l = length l.left
