-- A report of the extensions that are left is one of all, and so is a run that stops at one of them.
use Rattle.std.proofs.Common.{◌≤◌, ◌-◌, length}
use Rattle.wb_program_words.specs.Asked.{texts}
use Rattle.wb_program_files.specs.Stopped.{outside, GoesOn}
use Rattle.wb_program_files.specs.Inner.Extensions.{LeadsTo, StopsFrom}
use Rattle.wb_program_files.proofs.certify.answer_extensions.Given as goal

abbrev pub invariant-files : goal.invariant-files
invariant-files g l = record {
  within : l.at ≤ length l.files;
  goes_on : GoesOn (outside (g.S.Shelf.files l.fn.shelf) (g.S.Shelf.absences l.fn.shelf) (g.S.Shelf.faults l.fn.shelf))
      (outside (g.S.Shelf.files l.shelf) (g.S.Shelf.absences l.shelf) (g.S.Shelf.faults l.shelf));
  leads : LeadsTo l.operations.signatures (g.S.Shelf.files l.fn.shelf) l.host.resolved (texts l.files) l.at l.names.items;
  stops : StopsFrom l.operations.signatures (g.S.Shelf.files l.fn.shelf) l.host.resolved (texts l.files)
      (outside (g.S.Shelf.files l.fn.shelf) (g.S.Shelf.absences l.fn.shelf) (g.S.Shelf.faults l.fn.shelf)) l.at;
}

abbrev pub decreases-files : goal.decreases-files
decreases-files g l = length l.files - l.at
