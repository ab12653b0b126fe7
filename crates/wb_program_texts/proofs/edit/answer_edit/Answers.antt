-- The text and its edits are read after the host and the extensions, and their report comes after theirs.
use Rattle.std.proofs.Common.{◌⊎◌, ℕ, List, Option, inr, subst}
use Rattle.wb_program_files.specs.Kept.{ExtensionView}
use Rattle.wb_compose_texts.specs.Unions.{all_resolved}
use Rattle.wb_operations.specs.Operations.{OperationSignature}
use Rattle.wb_program_words.specs.Asked.{texts}
use Rattle.wb_syntax_resolved.specs.declared.resolved.ResolvedParts.{ResolvedParts}
use Rattle.wb_world.specs.Shelf.{Files}
use Rattle.wb_program_files.specs.Checks.{Check, Report}
use Rattle.wb_program_texts.specs.Commands.Edit.{EditsReport}
use Rattle.wb_program_texts.specs.Composable.{AreRead, RefusesAny}
use Rattle.wb_program_files.specs.Stopped.{outside}
use Rattle.wb_program_files.specs.Texts.{IsText, IsTooLongText}
use Rattle.wb_program_files.specs.declared.status.Status.TheVariants.{TextTooLong}
use Rattle.wb_program_files.proofs.StopLemmas.{err_of, ok_of}
use Rattle.wb_program_texts.proofs.ComposeLemmas.{composed_ended, several_ended, several_read}
use Rattle.wb_program_texts.proofs.EditLemmas.{comes_since}
use Rattle.wb_program_files.proofs.MakesLemmas.{answered, handed, made_since}
use Rattle.wb_program_texts.proofs.edit.answer_edit.Goals as goal

pub returns-in-Ok : goal.returns-in-Ok
returns-in-Ok g c =
    let known = g.S.Shelf.files c.args.shelf.now in
    let between = g.S.Shelf.files c.read_composable.new.shelf in
    let signatures = c.args.operations.now.signatures in
    let host = c.args.host.now in
    let extensions = texts c.args.extensions.now in
    let file = c.args.text.now in
    let list = c.args.edits.now in
    let all = c.in-Ok.all in
    let es = all.extensions.items in
    let are : AreRead signatures known host extensions all =
    ok_of c.in_ok-all.field-0 all (AreRead signatures known host extensions) c.in-Ok.is c.in_ok-all.ensures.ok in
    let Shows : List OperationSignature → List ExtensionView → Option Files → Report = λ operations views told.
    Check TextTooLong (IsTooLongText told file) (IsText told file)
    (λ (text : List ℕ). EditsReport operations told list all.host.resolved (all_resolved views) text) in
    let rest : ResolvedParts → List ResolvedParts → Report = λ r values.
    Check TextTooLong (IsTooLongText known file) (IsText known file)
    (λ (text : List ℕ). EditsReport signatures known list r values text) in
    made_since c.answer_text-answer.result c.read_composable.ensures.goes_on c.answer_text-answer.ensures
    (λ answer shown. several_read signatures host extensions known rest all answer.status answer.report.items are
    (subst (λ (told : Option Files). Shows signatures es told answer.status answer.report.items) c.read_composable.ensures.goes_on.files
    (subst (λ (operations : List OperationSignature). Shows operations es between answer.status answer.report.items) are.signatures
    (subst (λ (views : List ExtensionView). Shows all.host.operations views between answer.status answer.report.items)
    c.deref.ensures.value shown))))
    (λ P Q weaker meets. (
      are.few,
      inr (
        all.host.resolved,
        are.is_host,
        inr (
          all_resolved es,
          are.each,
          comes_since known between file list c.read_composable.ensures.goes_on.files P Q weaker meets,
        ),
      ),
    ))

pub returns-in-Err : goal.returns-in-Err
returns-in-Err g c =
    let known = g.S.Shelf.files c.args.shelf.now in
    let signatures = c.args.operations.now.signatures in
    let host = c.args.host.now in
    let extensions = texts c.args.extensions.now in
    let file = c.args.text.now in
    let list = c.args.edits.now in
    let answer = c.in-Err.answer in
    answered answer
    (several_ended signatures host extensions known
    (λ r values. Check TextTooLong (IsTooLongText known file) (IsText known file)
    (λ (text : List ℕ). EditsReport signatures known list r values text))
    answer.status answer.report.items
    (err_of c.in_ok-all.field-0 answer (λ made. RefusesAny signatures known host extensions made.status made.report.items) c.in-Err.is
    c.in_ok-all.ensures.refused))
    c.read_composable.ensures.goes_on

pub returns-in_err-all : goal.returns-in_err-all
returns-in_err-all g c =
    let before = outside (g.S.Shelf.files c.args.shelf.now) (g.S.Shelf.absences c.args.shelf.now) (g.S.Shelf.faults c.args.shelf.now) in
    let now = outside (g.S.Shelf.files c.read_composable.new.shelf) (g.S.Shelf.absences c.read_composable.new.shelf)
    (g.S.Shelf.faults c.read_composable.new.shelf) in
    let failure = c.in_err-all.field-0.0 in
    handed c.from_residual.result failure c.from_residual.ensures.1
    (composed_ended c.args.operations.now.signatures c.args.host.now (texts c.args.extensions.now) before now
    (λ P r values. P c.args.text.now
    ⊎ (((text : List ℕ) × IsText (g.S.Shelf.files c.args.shelf.now) c.args.text.now text) × P c.args.edits.now))
    failure c.in_err-all.ensures.stopped)
    c.read_composable.ensures.goes_on
