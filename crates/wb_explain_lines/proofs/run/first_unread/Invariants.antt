-- The shelf keeps what it promises.
use Rattle.std.proofs.Common.{◌-◌, length}
use Rattle.wb_explain_lines.specs.Outside.{outside, Keeps}
use Rattle.wb_explain_lines.proofs.run.first_unread.Given as goal

abbrev pub invariant-loop-place : goal.invariant-loop-place
invariant-loop-place g l =
    Keeps (outside (g.S.Shelf.files l.fn.shelf) (g.S.Shelf.absences l.fn.shelf) (g.S.Shelf.faults l.fn.shelf))
    (outside (g.S.Shelf.files l.shelf) (g.S.Shelf.absences l.shelf) (g.S.Shelf.faults l.shelf))

abbrev pub decreases-loop-place : goal.decreases-loop-place
decreases-loop-place g l = length l.words - l.place
