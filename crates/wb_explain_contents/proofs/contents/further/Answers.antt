-- Where nothing is looked into nothing is read.
use Rattle.wb_explain_lines.specs.Outside.{outside}
use Rattle.wb_explain_lines.proofs.KeepLemmas.{keeps_here}
use Rattle.wb_explain_contents.proofs.contents.further.Goals as goal

pub returns-then-status-eq0-clause-keeps : goal.returns-then-status-eq0-clause-keeps
returns-then-status-eq0-clause-keeps g c = keeps_here (outside (g.S.Shelf.files c.args.shelf.now) (g.S.Shelf.absences c.args.shelf.now) (g.S.Shelf.faults c.args.shelf.now))

pub returns-in-None-clause-keeps : goal.returns-in-None-clause-keeps
returns-in-None-clause-keeps g c = keeps_here (outside (g.S.Shelf.files c.args.shelf.now) (g.S.Shelf.absences c.args.shelf.now) (g.S.Shelf.faults c.args.shelf.now))
