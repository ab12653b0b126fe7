-- The answer of each source is its report.
use Rattle.std.proofs.Common.{sym, subst}
use Rattle.wb_operations.specs.Operations.{Operations}
use Rattle.wb_program_files.specs.Makes.{Answers}
use Rattle.wb_program_files.specs.Stopped.{outside}
use Rattle.wb_program_files.proofs.StopLemmas.{goes_on_here}
use Rattle.wb_program_files.proofs.MakesLemmas.{answered, exhausted}
use Rattle.wb_program_texts.specs.Inner.Sources.{SourceRest, SourceText}
use Rattle.wb_program_texts.specs.declared.source.Source.{Source}
use Rattle.wb_program_texts.proofs.source.composed_answer.Goals as goal

pub returns-in-File : goal.returns-in-File
returns-in-File g c =
    let operations : Operations = record { signatures = c.args.operations.now.signatures; meaning = g.M.Meaning.meaning } in
    let before = outside (g.S.Shelf.files c.args.shelf.now) (g.S.Shelf.absences c.args.shelf.now) (g.S.Shelf.faults c.args.shelf.now) in
    let now = outside (g.S.Shelf.files c.file_answer.new.shelf) (g.S.Shelf.absences c.file_answer.new.shelf)
    (g.S.Shelf.faults c.file_answer.new.shelf) in
    subst (λ (x : Source). Answers before now c.file_answer.result (SourceRest operations before.files x c.args.asked.now)
    (λ P. SourceText P x)) (sym c.in-File.is) c.file_answer.ensures

pub returns-in_ok-made_answer-in-Number : goal.returns-in_ok-made_answer-in-Number
returns-in_ok-made_answer-in-Number g c =
    let operations : Operations = record { signatures = c.args.operations.now.signatures; meaning = g.M.Meaning.meaning } in
    let files = g.S.Shelf.files c.args.shelf.now in
    let answer = c.in_ok-made_answer-in-Number.field-0 in
    answered answer (subst (λ (x : Source). SourceRest operations files x c.args.asked.now answer.status answer.report.items)
    (sym c.in-Number.is) c.in_ok-made_answer-in-Number.ensures)
    (goes_on_here (outside files (g.S.Shelf.absences c.args.shelf.now) (g.S.Shelf.faults c.args.shelf.now)))

pub returns-in_err-made_answer-in-Number : goal.returns-in_err-made_answer-in-Number
returns-in_err-made_answer-in-Number g c =
    exhausted c.from_residual.result c.from_residual.ensures.1
    (goes_on_here (outside (g.S.Shelf.files c.args.shelf.now) (g.S.Shelf.absences c.args.shelf.now) (g.S.Shelf.faults c.args.shelf.now)))
