-- Extensions are read after their host, and how a run ends at one of them comes after that host's checks.
use Rattle.std.proofs.Common.{rules, ◌≡◌, ◌≤◌, inl, inr, [], Option, Result, IfOk, IfErr, length, subst, arith}
use Rattle.wb_program_files.specs.HostContents.{IsHostRefusal}
use Rattle.wb_program_words.specs.Asked.{texts}
use Rattle.wb_world.specs.Shelf.{Files}
use Rattle.wb_program_texts.specs.Composable.{AreRead, RefusesAny}
use Rattle.wb_program_files.specs.HostChecks.{IsHostFile, RefusesHost}
use Rattle.wb_program_texts.specs.Inner.Several.{AreWith}
use Rattle.wb_program_texts.specs.SeveralStops.{StopsComposed, StopsEach}
use Rattle.wb_program_texts.specs.SeveralChecks.{RefusesEach}
use Rattle.wb_program_files.specs.Stopped.{outside, Stopped}
use Rattle.wb_program_files.specs.declared.answer.Answer.{Answer}
use Rattle.wb_program_texts.specs.declared.composable.Composable.{Composable}
use Rattle.wb_program_files.proofs.StopLemmas.{err_of, goes_on_here, goes_on_twice, ok_of, on_err, on_ok}
use Rattle.wb_program_texts.proofs.ComposeLemmas.{are_read, composed_first, composed_later, several_refused, then_first}
use Rattle.wb_program_files.proofs.WordLemmas.{few_texts}
use Rattle.wb_program_texts.proofs.composable.read_composable.Goals as goal

pub returns-in-Ok-clause-ok : goal.returns-in-Ok-clause-ok
returns-in-Ok-clause-ok g c =
    let known = g.S.Shelf.files c.args.shelf.now in
    let operations = c.args.operations.now.signatures in
    let host = c.in-Ok.certified in
    let extensions = texts c.args.extensions.now in
    let few : length extensions ≤ 64 = few_texts c.args.extensions.now 64 (omega arith) in
    let is : IsHostFile operations known c.args.host.now host.resolved = search rules in
    let signatures : host.operations ≡ operations =
    ok_of c.in_ok-certified.field-0 host (λ h. h.operations ≡ operations) c.in-Ok.is c.in_ok-certified.ensures.operations in
    let Made : Option Files → Result Composable Answer → Type 0 = λ told made. IfOk made (AreWith operations told host extensions) in
    let made : IfOk c.with_extensions.result (Made known) =
    subst (λ (told : Option Files). IfOk c.with_extensions.result (Made told)) c.read_host.ensures.goes_on.files
    c.with_extensions.ensures.ok in
    on_ok c.with_extensions.result (Made known) (λ made. IfOk made (AreRead operations known c.args.host.now extensions))
    (λ made with_it. on_ok made (AreWith operations known host extensions) (AreRead operations known c.args.host.now extensions)
    (λ all are. are_read operations c.args.host.now extensions known host all few is signatures are) with_it)
    made

pub returns-in-Ok-clause-refused : goal.returns-in-Ok-clause-refused
returns-in-Ok-clause-refused g c =
    let known = g.S.Shelf.files c.args.shelf.now in
    let operations = c.args.operations.now.signatures in
    let r = c.in-Ok.certified.resolved in
    let extensions = texts c.args.extensions.now in
    let few : length extensions ≤ 64 = few_texts c.args.extensions.now 64 (omega arith) in
    let is : IsHostFile operations known c.args.host.now r = search rules in
    let Refused : Option Files → Answer → Type 0 = λ told answer.
    RefusesEach operations told r extensions [] answer.status answer.report.items in
    let refused : IfOk c.with_extensions.result (λ made. IfErr made (Refused known)) =
    subst (λ (told : Option Files). IfOk c.with_extensions.result (λ made. IfErr made (Refused told))) c.read_host.ensures.goes_on.files
    c.with_extensions.ensures.refused in
    on_ok c.with_extensions.result (λ made. IfErr made (Refused known))
    (λ made. IfErr made (λ answer. RefusesAny operations known c.args.host.now extensions answer.status answer.report.items))
    (λ made ended. on_err made (Refused known)
    (λ answer. RefusesAny operations known c.args.host.now extensions answer.status answer.report.items)
    (λ answer shown. inr (few, inr (inr (r, is.contents, inl shown)))) ended)
    refused

pub returns-in-Ok-clause-stopped : goal.returns-in-Ok-clause-stopped
returns-in-Ok-clause-stopped g c =
    let files = g.S.Shelf.files c.args.shelf.now in
    let operations = c.args.operations.now.signatures in
    let host = c.args.host.now in
    let r = c.in-Ok.certified.resolved in
    let extensions = texts c.args.extensions.now in
    let before = outside files (g.S.Shelf.absences c.args.shelf.now) (g.S.Shelf.faults c.args.shelf.now) in
    let between = outside (g.S.Shelf.files c.read_host.new.shelf) (g.S.Shelf.absences c.read_host.new.shelf)
    (g.S.Shelf.faults c.read_host.new.shelf) in
    let now = outside (g.S.Shelf.files c.with_extensions.new.shelf) (g.S.Shelf.absences c.with_extensions.new.shelf)
    (g.S.Shelf.faults c.with_extensions.new.shelf) in
    let few : length extensions ≤ 64 = few_texts c.args.extensions.now 64 (omega arith) in
    let is : IsHostFile operations files host r = search rules in
    on_err c.with_extensions.result (Stopped between now (λ P. StopsEach operations between.files r P extensions []))
    (Stopped before now (λ P. StopsComposed operations files host extensions P (λ s values. ⊥)))
    (λ failure stopped. composed_later operations before between now host extensions r (λ P s values. ⊥) failure
    (λ P Q weaker values none. none) few is c.read_host.ensures.goes_on
    (then_first operations between now r extensions (λ P values. ⊥) failure stopped))
    c.with_extensions.ensures.stopped

pub returns-in-Err-clause-refused : goal.returns-in-Err-clause-refused
returns-in-Err-clause-refused g c =
    let known = g.S.Shelf.files c.args.shelf.now in
    let operations = c.args.operations.now.signatures in
    let extensions = texts c.args.extensions.now in
    let few : length extensions ≤ 64 = few_texts c.args.extensions.now 64 (omega arith) in
    let answer = c.in-Err.answer in
    let refused : RefusesHost (IsHostRefusal operations) known c.args.host.now answer.status answer.report.items =
    err_of c.in_ok-certified.field-0 answer
    (λ made. RefusesHost (IsHostRefusal operations) known c.args.host.now made.status made.report.items) c.in-Err.is
    c.in_ok-certified.ensures.refused in
    several_refused operations known c.args.host.now extensions (λ r values status bytes. ⊥) answer.status answer.report.items few refused

pub returns-in-Ok-clause-goes_on : goal.returns-in-Ok-clause-goes_on
returns-in-Ok-clause-goes_on g c =
    goes_on_twice (outside (g.S.Shelf.files c.args.shelf.now) (g.S.Shelf.absences c.args.shelf.now) (g.S.Shelf.faults c.args.shelf.now))
    (outside (g.S.Shelf.files c.read_host.new.shelf) (g.S.Shelf.absences c.read_host.new.shelf)
    (g.S.Shelf.faults c.read_host.new.shelf))
    (outside (g.S.Shelf.files c.with_extensions.new.shelf) (g.S.Shelf.absences c.with_extensions.new.shelf)
    (g.S.Shelf.faults c.with_extensions.new.shelf))
    c.read_host.ensures.goes_on c.with_extensions.ensures.goes_on

pub returns-in_err-certified-clause-stopped : goal.returns-in_err-certified-clause-stopped
returns-in_err-certified-clause-stopped g c =
    let before = outside (g.S.Shelf.files c.args.shelf.now) (g.S.Shelf.absences c.args.shelf.now) (g.S.Shelf.faults c.args.shelf.now) in
    let now = outside (g.S.Shelf.files c.read_host.new.shelf) (g.S.Shelf.absences c.read_host.new.shelf)
    (g.S.Shelf.faults c.read_host.new.shelf) in
    let operations = c.args.operations.now.signatures in
    let host = c.args.host.now in
    let extensions = texts c.args.extensions.now in
    let few : length extensions ≤ 64 = few_texts c.args.extensions.now 64 (omega arith) in
    let stopped : IfErr c.from_residual-in_err-certified.result (Stopped before now (λ P. P host)) = search rules in
    on_err c.from_residual-in_err-certified.result (Stopped before now (λ P. P host))
    (Stopped before now (λ P. StopsComposed operations before.files host extensions P (λ r values. ⊥)))
    (λ failure. composed_first operations before now host extensions (λ P r values. ⊥) failure few) stopped

pub returns-in-Err-clause-goes_on : goal.returns-in-Err-clause-goes_on
returns-in-Err-clause-goes_on g c = c.read_host.ensures.goes_on

pub returns-in-Err-clause-stopped : goal.returns-in-Err-clause-stopped
returns-in-Err-clause-stopped g c = tt

pub returns-in_err-certified-clause-goes_on : goal.returns-in_err-certified-clause-goes_on
returns-in_err-certified-clause-goes_on g c = c.read_host.ensures.goes_on

pub returns-in_err-reported-clause-goes_on : goal.returns-in_err-reported-clause-goes_on
returns-in_err-reported-clause-goes_on g c =
    goes_on_here (outside (g.S.Shelf.files c.args.shelf.now) (g.S.Shelf.absences c.args.shelf.now) (g.S.Shelf.faults c.args.shelf.now))

pub returns-then-extensions-gt-MOST_EXTENSIONS-clause-goes_on : goal.returns-then-extensions-gt-MOST_EXTENSIONS-clause-goes_on
returns-then-extensions-gt-MOST_EXTENSIONS-clause-goes_on g c =
    goes_on_here (outside (g.S.Shelf.files c.args.shelf.now) (g.S.Shelf.absences c.args.shelf.now) (g.S.Shelf.faults c.args.shelf.now))

pub returns-then-extensions-gt-MOST_EXTENSIONS-clause-stopped : goal.returns-then-extensions-gt-MOST_EXTENSIONS-clause-stopped
returns-then-extensions-gt-MOST_EXTENSIONS-clause-stopped g c = tt
