-- Where there is no buffer, nothing is read.
use Rattle.wb_explain_lines.specs.Outside.{outside}
use Rattle.wb_explain_lines.proofs.KeepLemmas.{keeps_here}
use Rattle.wb_explain_lines.proofs.file.read_into.Goals as goal

pub returns-in_err-piece : goal.returns-in_err-piece
returns-in_err-piece g c =
    keeps_here (outside (g.S.Shelf.files c.args.shelf.now) (g.S.Shelf.absences c.args.shelf.now) (g.S.Shelf.faults c.args.shelf.now))
