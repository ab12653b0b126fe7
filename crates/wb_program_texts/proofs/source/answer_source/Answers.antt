-- What is answered of the source comes after the host and the extensions, and so does its report.
use Rattle.std.proofs.Common.{List, Option, inr, subst}
use Rattle.wb_program_files.specs.Kept.{ExtensionView}
use Rattle.wb_operations.specs.Operations.{Operations}
use Rattle.wb_compose_texts.specs.Unions.{all_resolved}
use Rattle.wb_program_words.specs.Asked.{texts}
use Rattle.wb_world.specs.Shelf.{Files}
use Rattle.wb_program_files.specs.Checks.{Report}
use Rattle.wb_program_texts.specs.Composable.{AreRead, RefusesAny}
use Rattle.wb_program_files.specs.Stopped.{outside}
use Rattle.wb_program_files.proofs.StopLemmas.{err_of, ok_of}
use Rattle.wb_program_texts.proofs.ComposeLemmas.{composed_ended, several_ended, several_read}
use Rattle.wb_program_files.proofs.MakesLemmas.{answered, handed, made_since}
use Rattle.wb_program_texts.specs.Inner.Sources.{SourceChecks, SourceEnd}
use Rattle.wb_program_texts.proofs.SourceLemmas.{end_weaker}
use Rattle.wb_program_texts.proofs.source.answer_source.Goals as goal

pub returns-in-Ok : goal.returns-in-Ok
returns-in-Ok g c =
    let known = g.S.Shelf.files c.args.shelf.now in
    let between = g.S.Shelf.files c.read_composable.new.shelf in
    let operations : Operations = record { signatures = c.args.operations.now.signatures; meaning = g.M.Meaning.meaning } in
    let signatures = operations.signatures in
    let host = c.args.host.now in
    let extensions = texts c.args.extensions.now in
    let name = c.args.attribute.now in
    let source = c.args.source in
    let all = c.in-Ok.all in
    let r = all.host.resolved in
    let es = all.extensions.items in
    let are : AreRead signatures known host extensions all =
    ok_of c.in_ok-all.field-0 all (AreRead signatures known host extensions) c.in-Ok.is c.in_ok-all.ensures.ok in
    let Shows : List ExtensionView → Option Files → Report = λ list told. SourceChecks operations told name source r (all_resolved list) in
    made_since c.union_answer-answer.result c.read_composable.ensures.goes_on c.union_answer-answer.ensures
    (λ answer shown. several_read signatures host extensions known (SourceChecks operations known name source) all answer.status
    answer.report.items are
    (subst (λ (told : Option Files). Shows es told answer.status answer.report.items) c.read_composable.ensures.goes_on.files
    (subst (λ (list : List ExtensionView). Shows list between answer.status answer.report.items) c.deref.ensures.value shown)))
    (λ P Q weaker meets. (
      are.few,
      inr (
        r,
        are.is_host,
        inr (
          all_resolved es,
          are.each,
          end_weaker signatures name source P Q r (all_resolved es) weaker
              (subst (λ (list : List ExtensionView). SourceEnd signatures name source P r (all_resolved list)) c.deref.ensures.value meets),
        ),
      ),
    ))

pub returns-in-Err : goal.returns-in-Err
returns-in-Err g c =
    let known = g.S.Shelf.files c.args.shelf.now in
    let operations : Operations = record { signatures = c.args.operations.now.signatures; meaning = g.M.Meaning.meaning } in
    let host = c.args.host.now in
    let extensions = texts c.args.extensions.now in
    let answer = c.in-Err.answer in
    answered answer
    (several_ended operations.signatures host extensions known (SourceChecks operations known c.args.attribute.now c.args.source)
    answer.status answer.report.items
    (err_of c.in_ok-all.field-0 answer
    (λ made. RefusesAny operations.signatures known host extensions made.status made.report.items) c.in-Err.is c.in_ok-all.ensures.refused))
    c.read_composable.ensures.goes_on

pub returns-in_err-all : goal.returns-in_err-all
returns-in_err-all g c =
    let before = outside (g.S.Shelf.files c.args.shelf.now) (g.S.Shelf.absences c.args.shelf.now) (g.S.Shelf.faults c.args.shelf.now) in
    let now = outside (g.S.Shelf.files c.read_composable.new.shelf) (g.S.Shelf.absences c.read_composable.new.shelf)
    (g.S.Shelf.faults c.read_composable.new.shelf) in
    let signatures = c.args.operations.now.signatures in
    let failure = c.in_err-all.field-0.0 in
    handed c.from_residual.result failure c.from_residual.ensures.1
    (composed_ended signatures c.args.host.now (texts c.args.extensions.now) before now
    (SourceEnd signatures c.args.attribute.now c.args.source) failure c.in_err-all.ensures.stopped)
    c.read_composable.ensures.goes_on
