-- Nothing is read where nothing can be composed.
use Rattle.wb_program_files.specs.Stopped.{outside}
use Rattle.wb_program_files.proofs.StopLemmas.{goes_on_here}
use Rattle.wb_program_files.proofs.MakesLemmas.{exhausted}
use Rattle.wb_program_texts.proofs.source.source_answer.Goals as goal

pub returns : goal.returns
returns g c = c.composed_answer-answer.ensures

pub returns-in_err-composed : goal.returns-in_err-composed
returns-in_err-composed g c =
    exhausted c.from_residual.result c.from_residual.ensures.1
    (goes_on_here (outside (g.S.Shelf.files c.args.shelf.now) (g.S.Shelf.absences c.args.shelf.now) (g.S.Shelf.faults c.args.shelf.now)))
