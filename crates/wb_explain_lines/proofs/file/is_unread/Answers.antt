-- An empty name isn't read, and another is once.
use Rattle.wb_explain_lines.specs.Outside.{outside}
use Rattle.wb_explain_lines.proofs.KeepLemmas.{keeps_here}
use Rattle.wb_explain_lines.proofs.file.is_unread.Goals as goal

pub returns-then-is_empty : goal.returns-then-is_empty
returns-then-is_empty g c =
    keeps_here (outside (g.S.Shelf.files c.args.shelf.now) (g.S.Shelf.absences c.args.shelf.now) (g.S.Shelf.faults c.args.shelf.now))

pub returns : goal.returns
returns g c = record { files = c.read-got.ensures.files; absences = c.read-got.ensures.absences; faults = c.read-got.ensures.faults }
