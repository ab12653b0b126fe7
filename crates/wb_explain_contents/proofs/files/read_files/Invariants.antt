-- The shelf keeps what it promises.
use Rattle.wb_explain_lines.specs.Outside.{outside, Keeps}
use Rattle.wb_explain_contents.proofs.files.read_files.Given as goal

abbrev pub invariant-names : goal.invariant-names
invariant-names g l =
    Keeps (outside (g.S.Shelf.files l.fn.shelf) (g.S.Shelf.absences l.fn.shelf) (g.S.Shelf.faults l.fn.shelf))
    (outside (g.S.Shelf.files l.shelf) (g.S.Shelf.absences l.shelf) (g.S.Shelf.faults l.shelf))
