-- The cursor is in its line and column, and not past the place.
use Rattle.std.proofs.Common.{◌-◌}
use Rattle.wb_explain_drawing.proofs.CursorLemmas.{IsOnWay}
use Rattle.wb_explain_drawing.proofs.cursor.Cursor.moved.Given as goal

abbrev pub invariant-bytes : goal.invariant-bytes
invariant-bytes l = IsOnWay l.text l.fn.self l.to l.cursor

abbrev pub decreases-bytes : goal.decreases-bytes
decreases-bytes l = l.to - l.cursor.at
