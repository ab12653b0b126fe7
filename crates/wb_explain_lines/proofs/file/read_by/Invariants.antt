-- The buffer has room, and the shelf keeps what it promises.
use Rattle.std.proofs.Common.{◌<◌, ◌-◌, length, vec_len}
use Rattle.wb_explain_lines.specs.Outside.{outside, Keeps}
use Rattle.wb_explain_lines.proofs.file.read_by.Given as goal

abbrev pub invariant-pieces : goal.invariant-pieces
invariant-pieces g l = record {
  room : 0 < length l.piece;
  keeps : Keeps (outside (g.S.Shelf.files l.fn.shelf) (g.S.Shelf.absences l.fn.shelf) (g.S.Shelf.faults l.fn.shelf))
      (outside (g.S.Shelf.files l.shelf) (g.S.Shelf.absences l.shelf) (g.S.Shelf.faults l.shelf));
}

abbrev pub decreases-pieces : goal.decreases-pieces
decreases-pieces g l = 16777216 - vec_len l.bytes
