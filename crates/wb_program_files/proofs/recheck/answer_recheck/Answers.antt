-- The extension comes after the host, and its report after that of the host's checks.
use Rattle.std.proofs.Common.{◌⊎◌, ℕ, List, Option, subst}
use Rattle.wb_world.specs.Shelf.{Files}
use Rattle.wb_program_words.specs.Asked.{texts}
use Rattle.wb_program_files.specs.Commands.Recheck.{ExtensionReport, rechecked_reads}
use Rattle.wb_program_files.specs.Inner.Pairs.{IsFoundHost}
use Rattle.wb_program_files.specs.Stopped.{outside}
use Rattle.wb_program_files.specs.Stops.{StopsAt}
use Rattle.wb_program_files.proofs.MakesLemmas.{answered, handed, made_since}
use Rattle.wb_program_files.proofs.RecheckLemmas.{host_done, host_ended, stops_host, stops_later}
use Rattle.wb_program_files.proofs.StopLemmas.{weaker_stop}
use Rattle.wb_program_files.proofs.recheck.answer_recheck.Goals as goal

pub answer_rest-answer-requires : goal.answer_rest-answer-requires
answer_rest-answer-requires g c =
    (subst (IsFoundHost c.args.operations.now.signatures (g.S.Shelf.files c.args.shelf.now) c.args.host.now c.args.certificate.now)
    c.in-Ok.is c.in_ok-rechecked.ensures.ok).signatures

pub returns-in-Ok : goal.returns-in-Ok
returns-in-Ok g c =
    let known = g.S.Shelf.files c.args.shelf.now in
    let operations = c.args.operations.now.signatures in
    let host = c.args.host.now in
    let certificate = c.args.certificate.now in
    let extension = texts c.args.extension.now in
    let value = c.in-Ok.rechecked.resolved in
    let found = subst (IsFoundHost operations known host certificate) c.in-Ok.is c.in_ok-rechecked.ensures.ok in
    made_since c.answer_rest-answer.result c.read_rechecked.ensures.goes_on c.answer_rest-answer.ensures
    (λ answer report. host_done operations known host certificate extension value answer.status answer.report.items found.is
    (subst (λ (told : Option Files). ExtensionReport operations told value extension answer.status answer.report.items)
    c.read_rechecked.ensures.goes_on.files report))
    (λ P Q weaker stops. stops_later operations known host certificate extension (g.S.Shelf.files c.read_rechecked.new.shelf) value P Q
    weaker found.is stops)

pub returns-in-Err : goal.returns-in-Err
returns-in-Err g c =
    let known = g.S.Shelf.files c.args.shelf.now in
    let operations = c.args.operations.now.signatures in
    let host = c.args.host.now in
    let certificate = c.args.certificate.now in
    let found = subst (IsFoundHost operations known host certificate) c.in-Err.is c.in_ok-rechecked.ensures.ok in
    answered c.in-Err.answer
    (host_ended operations known host certificate (texts c.args.extension.now) c.in-Err.answer found.is) c.read_rechecked.ensures.goes_on

pub returns-in_err-rechecked : goal.returns-in_err-rechecked
returns-in_err-rechecked g c =
    let known = g.S.Shelf.files c.args.shelf.now in
    let operations = c.args.operations.now.signatures in
    let host = c.args.host.now in
    let certificate = c.args.certificate.now in
    let extension = texts c.args.extension.now in
    let before = outside (g.S.Shelf.files c.args.shelf.now) (g.S.Shelf.absences c.args.shelf.now) (g.S.Shelf.faults c.args.shelf.now) in
    let now = outside (g.S.Shelf.files c.read_rechecked.new.shelf) (g.S.Shelf.absences c.read_rechecked.new.shelf)
    (g.S.Shelf.faults c.read_rechecked.new.shelf) in
    let failure = c.in_err-rechecked.field-0.0 in
    handed c.from_residual.result failure c.from_residual.ensures.1
    (weaker_stop before now (λ P. P host ⊎ P certificate) (λ P. StopsAt operations known P (rechecked_reads host certificate extension))
    failure (stops_host operations known host certificate extension) c.in_err-rechecked.ensures.stopped) c.read_rechecked.ensures.goes_on
