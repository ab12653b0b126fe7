-- The reads for both keep what is kept.
use Rattle.wb_explain_lines.specs.Outside.{outside}
use Rattle.wb_explain_lines.proofs.KeepLemmas.{keeps_twice}
use Rattle.wb_explain.proofs.program.said.Goals as goal

pub returns-in-Ok : goal.returns-in-Ok
returns-in-Ok g c =
    keeps_twice (outside (g.S.Shelf.files c.args.shelf.now) (g.S.Shelf.absences c.args.shelf.now) (g.S.Shelf.faults c.args.shelf.now))
    (outside (g.S.Shelf.files c.explanation.new.shelf) (g.S.Shelf.absences c.explanation.new.shelf) (g.S.Shelf.faults c.explanation.new.shelf))
    (outside (g.S.Shelf.files c.further.new.shelf) (g.S.Shelf.absences c.further.new.shelf) (g.S.Shelf.faults c.further.new.shelf))
    c.explanation.ensures.keeps c.further.ensures.keeps

pub returns-in-Err : goal.returns-in-Err
returns-in-Err g c =
    keeps_twice (outside (g.S.Shelf.files c.args.shelf.now) (g.S.Shelf.absences c.args.shelf.now) (g.S.Shelf.faults c.args.shelf.now))
    (outside (g.S.Shelf.files c.explanation.new.shelf) (g.S.Shelf.absences c.explanation.new.shelf) (g.S.Shelf.faults c.explanation.new.shelf))
    (outside (g.S.Shelf.files c.further.new.shelf) (g.S.Shelf.absences c.further.new.shelf) (g.S.Shelf.faults c.further.new.shelf))
    c.explanation.ensures.keeps c.further.ensures.keeps
