-- One piece more keeps what was kept.
use Rattle.std.proofs.Common.{arith}
use Rattle.wb_explain_lines.specs.Outside.{outside}
use Rattle.wb_explain_lines.proofs.KeepLemmas.{keeps_twice}
use Rattle.wb_explain_lines.proofs.file.read_by.Goals as goal

pub returns-in_err-read_piece : goal.returns-in_err-read_piece
returns-in_err-read_piece g c =
    keeps_twice (outside (g.S.Shelf.files c.args.shelf.now) (g.S.Shelf.absences c.args.shelf.now) (g.S.Shelf.faults c.args.shelf.now))
    (outside (g.S.Shelf.files c.pieces.shelf) (g.S.Shelf.absences c.pieces.shelf) (g.S.Shelf.faults c.pieces.shelf))
    (outside (g.S.Shelf.files c.read_piece.new.shelf) (g.S.Shelf.absences c.read_piece.new.shelf) (g.S.Shelf.faults c.read_piece.new.shelf))
    c.pieces.invariant.keeps c.read_piece.ensures.keeps

pub returns-then-branch-eq0 : goal.returns-then-branch-eq0
returns-then-branch-eq0 g c =
    keeps_twice (outside (g.S.Shelf.files c.args.shelf.now) (g.S.Shelf.absences c.args.shelf.now) (g.S.Shelf.faults c.args.shelf.now))
    (outside (g.S.Shelf.files c.pieces.shelf) (g.S.Shelf.absences c.pieces.shelf) (g.S.Shelf.faults c.pieces.shelf))
    (outside (g.S.Shelf.files c.read_piece.new.shelf) (g.S.Shelf.absences c.read_piece.new.shelf) (g.S.Shelf.faults c.read_piece.new.shelf))
    c.pieces.invariant.keeps c.read_piece.ensures.keeps

pub pieces-preserved : goal.pieces-preserved
pieces-preserved g c = record {
  room = omega (arith, c.read_piece.ensures.room, c.pieces.invariant.room);
  keeps =
      keeps_twice (outside (g.S.Shelf.files c.args.shelf.now) (g.S.Shelf.absences c.args.shelf.now) (g.S.Shelf.faults c.args.shelf.now))
      (outside (g.S.Shelf.files c.pieces.shelf) (g.S.Shelf.absences c.pieces.shelf) (g.S.Shelf.faults c.pieces.shelf))
      (outside (g.S.Shelf.files c.read_piece.new.shelf) (g.S.Shelf.absences c.read_piece.new.shelf)
      (g.S.Shelf.faults c.read_piece.new.shelf)) c.pieces.invariant.keeps c.read_piece.ensures.keeps;
}
