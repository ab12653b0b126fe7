-- One file more keeps what was kept.
use Rattle.wb_explain_lines.specs.Outside.{outside}
use Rattle.wb_explain_lines.proofs.KeepLemmas.{keeps_twice}
use Rattle.wb_explain_contents.proofs.files.read_files.Goals as goal

pub returns-in_err-read_file : goal.returns-in_err-read_file
returns-in_err-read_file g c =
    keeps_twice (outside (g.S.Shelf.files c.args.shelf.now) (g.S.Shelf.absences c.args.shelf.now) (g.S.Shelf.faults c.args.shelf.now))
    (outside (g.S.Shelf.files c.names.shelf) (g.S.Shelf.absences c.names.shelf) (g.S.Shelf.faults c.names.shelf))
    (outside (g.S.Shelf.files c.read_file.new.shelf) (g.S.Shelf.absences c.read_file.new.shelf) (g.S.Shelf.faults c.read_file.new.shelf))
    c.names.invariant c.read_file.ensures

pub names-preserved : goal.names-preserved
names-preserved g c =
    keeps_twice (outside (g.S.Shelf.files c.args.shelf.now) (g.S.Shelf.absences c.args.shelf.now) (g.S.Shelf.faults c.args.shelf.now))
    (outside (g.S.Shelf.files c.names.shelf) (g.S.Shelf.absences c.names.shelf) (g.S.Shelf.faults c.names.shelf))
    (outside (g.S.Shelf.files c.read_file.new.shelf) (g.S.Shelf.absences c.read_file.new.shelf) (g.S.Shelf.faults c.read_file.new.shelf))
    c.names.invariant c.read_file.ensures
