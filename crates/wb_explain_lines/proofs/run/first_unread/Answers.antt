-- One read more keeps what was kept.
use Rattle.wb_explain_lines.specs.Outside.{outside}
use Rattle.wb_explain_lines.proofs.KeepLemmas.{keeps_twice}
use Rattle.wb_explain_lines.proofs.run.first_unread.Goals as goal

pub returns-then-is_unread : goal.returns-then-is_unread
returns-then-is_unread g c =
    keeps_twice (outside (g.S.Shelf.files c.args.shelf.now) (g.S.Shelf.absences c.args.shelf.now) (g.S.Shelf.faults c.args.shelf.now))
    (outside (g.S.Shelf.files c.loop-place.shelf) (g.S.Shelf.absences c.loop-place.shelf) (g.S.Shelf.faults c.loop-place.shelf))
    (outside (g.S.Shelf.files c.is_unread.new.shelf) (g.S.Shelf.absences c.is_unread.new.shelf) (g.S.Shelf.faults c.is_unread.new.shelf))
    c.loop-place.invariant c.is_unread.ensures

pub loop-place-preserved : goal.loop-place-preserved
loop-place-preserved g c =
    keeps_twice (outside (g.S.Shelf.files c.args.shelf.now) (g.S.Shelf.absences c.args.shelf.now) (g.S.Shelf.faults c.args.shelf.now))
    (outside (g.S.Shelf.files c.loop-place.shelf) (g.S.Shelf.absences c.loop-place.shelf) (g.S.Shelf.faults c.loop-place.shelf))
    (outside (g.S.Shelf.files c.is_unread.new.shelf) (g.S.Shelf.absences c.is_unread.new.shelf) (g.S.Shelf.faults c.is_unread.new.shelf))
    c.loop-place.invariant c.is_unread.ensures
