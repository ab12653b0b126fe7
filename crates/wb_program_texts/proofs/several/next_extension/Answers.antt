-- What was read is an extension after others, and so the file is; or the file is refused.
use Rattle.std.proofs.Common.{◌≡◌, List, ℕ, subst}
use Rattle.wb_lemmas.proofs.Refusals.{handed_on}
use Rattle.wb_compose_texts.specs.Unions.{all_resolved}
use Rattle.wb_program_files.specs.Files.{KnownFile}
use Rattle.wb_program_texts.specs.SeveralChecks.{IsNextText}
use Rattle.wb_program_texts.specs.Inner.Several.{IsNextRefusal, RefusedNext}
use Rattle.wb_program_files.proofs.FileLemmas.{read_is}
use Rattle.wb_program_texts.proofs.SeveralLemmas.{refused_next}
use Rattle.wb_program_files.specs.Stopped.{outside, Stopped}
use Rattle.wb_program_files.specs.declared.files.ReadFailure.{ReadFailure}
use Rattle.wb_program_texts.proofs.several.next_extension.Goals as goal

pub returns-in-Ok-clause-ok : goal.returns-in-Ok-clause-ok
returns-in-Ok-clause-ok g c =
    read_is (g.S.Shelf.files c.args.shelf.now) c.args.file.now c.in_ok-word.contents
    (λ bytes. IsNextText c.args.operations.now.signatures c.args.host.now.resolved (all_resolved c.args.before.now) bytes
    c.in-Ok.extension.resolved) c.in_ok-word.ensures.contents c.in-Ok.ensures.ok

pub returns-in_ok-refused_next-in-Err-clause-refused : goal.returns-in_ok-refused_next-in-Err-clause-refused
returns-in_ok-refused_next-in-Err-clause-refused g c =
    let known = g.S.Shelf.files c.args.shelf.now in
    let operations = c.args.operations.now.signatures in
    let host = c.args.host.now.resolved in
    let before = all_resolved c.args.before.now in
    let answer = c.in_ok-refused_next-in-Err.field-0 in
    let cause : KnownFile known c.args.file.now (λ contents. IsNextRefusal operations host before contents c.in-Err.refusal) =
    read_is known c.args.file.now c.in_ok-word.contents (λ bytes. IsNextRefusal operations host before bytes c.in-Err.refusal)
    c.in_ok-word.ensures.contents c.in-Err.ensures.refused in
    let word : c.in_ok-word.word ≡ c.args.file.now = c.in_ok-word.ensures.word in
    let shown : RefusedNext c.args.file.now c.in-Err.refusal answer.status answer.report.items =
    subst (λ (file : List ℕ). RefusedNext file c.in-Err.refusal answer.status answer.report.items) word
    c.in_ok-refused_next-in-Err.ensures in
    refused_next operations known host before c.args.file.now c.in-Err.refusal answer.status answer.report.items cause shown

pub returns-in_err-word-clause-stopped : goal.returns-in_err-word-clause-stopped
returns-in_err-word-clause-stopped g c =
    let Stops : ReadFailure → Type 0 = Stopped (outside (g.S.Shelf.files c.args.shelf.now) (g.S.Shelf.absences c.args.shelf.now) (g.S.Shelf.faults c.args.shelf.now))
    (outside (g.S.Shelf.files c.named_contents.new.shelf) (g.S.Shelf.absences c.named_contents.new.shelf)
    (g.S.Shelf.faults c.named_contents.new.shelf)) (λ P. P c.args.file.now) in
    handed_on Stops Stops c.from_residual.result c.in_err-word.field-0.0 c.from_residual.ensures.1 (λ failure stops. stops)
    c.in_err-word.ensures.stopped

pub returns-in-Ok-clause-goes_on : goal.returns-in-Ok-clause-goes_on
returns-in-Ok-clause-goes_on g c = c.named_contents.ensures.goes_on

pub returns-in_err-word-clause-goes_on : goal.returns-in_err-word-clause-goes_on
returns-in_err-word-clause-goes_on g c = c.named_contents.ensures.goes_on

pub returns-in_ok-refused_next-in-Err-clause-goes_on : goal.returns-in_ok-refused_next-in-Err-clause-goes_on
returns-in_ok-refused_next-in-Err-clause-goes_on g c = c.named_contents.ensures.goes_on

pub returns-in_err-refused_next-in-Err-clause-goes_on : goal.returns-in_err-refused_next-in-Err-clause-goes_on
returns-in_err-refused_next-in-Err-clause-goes_on g c = c.named_contents.ensures.goes_on

pub returns-in-Ok-clause-apart : goal.returns-in-Ok-clause-apart
returns-in-Ok-clause-apart g c = c.in-Ok.ensures.apart
