-- Nothing is read where the word isn't made.
use Rattle.std.proofs.Common.{◌∙◌}
use Rattle.wb_program_files.specs.Stopped.{outside}
use Rattle.wb_program_files.proofs.StopLemmas.{goes_on_here}
use Rattle.wb_program_files.proofs.files.named_contents.Goals as goal

pub returns-in_err-word-clause-goes_on : goal.returns-in_err-word-clause-goes_on
returns-in_err-word-clause-goes_on g c =
    goes_on_here (outside (g.S.Shelf.files c.args.shelf.now) (g.S.Shelf.absences c.args.shelf.now) (g.S.Shelf.faults c.args.shelf.now))

pub returns-in-Ok-clause-word : goal.returns-in-Ok-clause-word
returns-in-Ok-clause-word g c = c.in_ok-word.ensures.ok ∙ c.as_bytes.ensures.value

pub returns-in-Ok-clause-contents : goal.returns-in-Ok-clause-contents
returns-in-Ok-clause-contents g c = c.in-Ok.ensures.ok

pub returns-in-Err-clause-stopped : goal.returns-in-Err-clause-stopped
returns-in-Err-clause-stopped g c = c.in-Err.ensures.stopped
