-- What is found of the extensions that are left is found of all, and those that were read are apart.
use Rattle.std.proofs.Common.{◌≤◌, ◌-◌, length}
use Rattle.wb_compose_texts.specs.Unions.{all_resolved}
use Rattle.wb_program_words.specs.Asked.{texts}
use Rattle.wb_program_texts.specs.Composable.{AreApart}
use Rattle.wb_program_texts.specs.Inner.Several.{IsReached}
use Rattle.wb_program_files.specs.Stopped.{outside, GoesOn}
use Rattle.wb_program_texts.proofs.several.read_into.Given as goal

abbrev pub invariant-files : goal.invariant-files
invariant-files g l = record {
  within : l.at ≤ length l.files;
  goes_on : GoesOn (outside (g.S.Shelf.files l.fn.shelf) (g.S.Shelf.absences l.fn.shelf) (g.S.Shelf.faults l.fn.shelf))
      (outside (g.S.Shelf.files l.shelf) (g.S.Shelf.absences l.shelf) (g.S.Shelf.faults l.shelf));
  apart : AreApart l.host l.extensions.items;
  reached : IsReached l.operations.signatures
      (outside (g.S.Shelf.files l.fn.shelf) (g.S.Shelf.absences l.fn.shelf) (g.S.Shelf.faults l.fn.shelf)) l.host.resolved (texts l.files) l.at
      (all_resolved l.extensions.items);
}

abbrev pub decreases-files : goal.decreases-files
decreases-files g l = length l.files - l.at
