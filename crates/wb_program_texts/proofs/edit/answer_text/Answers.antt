-- The edits are read after the text, and the report of both is that of their files.
use Rattle.std.proofs.Common.{ℕ, List, Option, inl, inr, subst}
use Rattle.wb_compose_texts.specs.Unions.{all_resolved}
use Rattle.wb_world.specs.Shelf.{Files}
use Rattle.wb_program_texts.specs.Commands.Edit.{EditsReport}
use Rattle.wb_program_files.specs.Contents.{ContentsAre}
use Rattle.wb_program_files.specs.Stopped.{outside}
use Rattle.wb_program_files.specs.declared.files.Contents.TheVariants.{Whole, TooLong}
use Rattle.wb_program_texts.proofs.EditLemmas.{stops_at_text, text_read}
use Rattle.wb_program_files.proofs.MakesLemmas.{answered, exhausted, handed, made_since}
use Rattle.wb_program_texts.proofs.edit.answer_text.Goals as goal

pub returns-in-Whole : goal.returns-in-Whole
returns-in-Whole g c =
    let known = g.S.Shelf.files c.args.shelf.now in
    let between = g.S.Shelf.files c.read_file.new.shelf in
    let host = c.args.host.now in
    let values = all_resolved c.args.extensions.now in
    let file = c.args.file.now in
    let list = c.args.edits.now in
    let text = c.in-Whole.text in
    let are : ContentsAre 1048576 known file (Whole text) =
    subst (ContentsAre 1048576 known file) c.in-Whole.is c.in_ok-contents.ensures.ok in
    let is = text_read known file text.items are.0 are.1 in
    made_since c.answer_file-answer.result c.read_file.ensures.goes_on c.answer_file-answer.ensures
    (λ answer shown. inr (
      text.items,
      is,
      subst (λ (told : Option Files). EditsReport host.operations told list host.resolved values text.items answer.status answer.report.items)
          c.read_file.ensures.goes_on.files
          (subst (λ (bytes : List ℕ). EditsReport host.operations between list host.resolved values bytes answer.status answer.report.items)
          c.deref.ensures.value shown),
    ))
    (λ P Q weaker meets. inr ((text.items, is), weaker list meets))

pub returns-in_ok-reported-in-TooLong : goal.returns-in_ok-reported-in-TooLong
returns-in_ok-reported-in-TooLong g c =
    let are : ContentsAre 1048576 (g.S.Shelf.files c.args.shelf.now) c.args.file.now TooLong =
    subst (ContentsAre 1048576 (g.S.Shelf.files c.args.shelf.now) c.args.file.now) c.in-TooLong.is c.in_ok-contents.ensures.ok in
    let answer = c.in_ok-reported-in-TooLong.field-0 in
    answered answer
    (inl (
      c.in_ok-reported-in-TooLong.ensures.status,
      record {
        long = are;
        line = c.in_ok-reported-in-TooLong.ensures.report;
      },
    ))
    c.read_file.ensures.goes_on

pub returns-in_err-reported-in-TooLong : goal.returns-in_err-reported-in-TooLong
returns-in_err-reported-in-TooLong g c =
    exhausted c.from_residual-in_err-reported-in-TooLong.result c.from_residual-in_err-reported-in-TooLong.ensures.1
    c.read_file.ensures.goes_on

pub returns-in_err-contents : goal.returns-in_err-contents
returns-in_err-contents g c =
    let before = outside (g.S.Shelf.files c.args.shelf.now) (g.S.Shelf.absences c.args.shelf.now) (g.S.Shelf.faults c.args.shelf.now) in
    let now = outside (g.S.Shelf.files c.read_file.new.shelf) (g.S.Shelf.absences c.read_file.new.shelf)
    (g.S.Shelf.faults c.read_file.new.shelf) in
    let failure = c.in_err-contents.field-0.0 in
    handed c.from_residual.result failure c.from_residual.ensures.1
    (stops_at_text before now c.args.file.now c.args.edits.now failure c.in_err-contents.ensures.stopped)
    c.read_file.ensures.goes_on
