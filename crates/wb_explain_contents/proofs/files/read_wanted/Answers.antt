-- What one read after the other keeps is kept.
use Rattle.wb_explain_lines.specs.Outside.{outside}
use Rattle.wb_explain_lines.proofs.KeepLemmas.{keeps_twice}
use Rattle.wb_explain_contents.proofs.files.read_wanted.Goals as goal

pub returns-in_err-read_files : goal.returns-in_err-read_files
returns-in_err-read_files g c =
    keeps_twice (outside (g.S.Shelf.files c.args.shelf.now) (g.S.Shelf.absences c.args.shelf.now) (g.S.Shelf.faults c.args.shelf.now))
    (outside (g.S.Shelf.files c.read_file.new.shelf) (g.S.Shelf.absences c.read_file.new.shelf) (g.S.Shelf.faults c.read_file.new.shelf))
    (outside (g.S.Shelf.files c.read_files.new.shelf) (g.S.Shelf.absences c.read_files.new.shelf) (g.S.Shelf.faults c.read_files.new.shelf))
    c.read_file.ensures c.read_files.ensures

pub returns : goal.returns
returns g c =
    keeps_twice (outside (g.S.Shelf.files c.args.shelf.now) (g.S.Shelf.absences c.args.shelf.now) (g.S.Shelf.faults c.args.shelf.now))
    (outside (g.S.Shelf.files c.read_files.new.shelf) (g.S.Shelf.absences c.read_files.new.shelf) (g.S.Shelf.faults c.read_files.new.shelf))
    (outside (g.S.Shelf.files c.read_file-2.new.shelf) (g.S.Shelf.absences c.read_file-2.new.shelf) (g.S.Shelf.faults c.read_file-2.new.shelf))
    (keeps_twice (outside (g.S.Shelf.files c.args.shelf.now) (g.S.Shelf.absences c.args.shelf.now) (g.S.Shelf.faults c.args.shelf.now))
    (outside (g.S.Shelf.files c.read_file.new.shelf) (g.S.Shelf.absences c.read_file.new.shelf) (g.S.Shelf.faults c.read_file.new.shelf))
    (outside (g.S.Shelf.files c.read_files.new.shelf) (g.S.Shelf.absences c.read_files.new.shelf) (g.S.Shelf.faults c.read_files.new.shelf)) c.read_file.ensures c.read_files.ensures)
    c.read_file-2.ensures
