-- The certificate comes after the checks of the host and the extension.
use Rattle.std.proofs.Common.{List, subst}
use Rattle.wb_program_texts.specs.Kept.{ExtensionView}
use Rattle.wb_program_texts.specs.Unions.{all_resolved}
use Rattle.wb_program_words.specs.Asked.{texts}
use Rattle.wb_program.specs.Commands.Certificate.{CertificateChecks}
use Rattle.wb_program_texts.specs.Composable.{AreRead, RefusesAny}
use Rattle.wb_program_texts.proofs.ComposeLemmas.{several_ended, several_read}
use Rattle.wb_program_texts.proofs.MakesLemmas.{answered, handed, exhausted}
use Rattle.wb_program_texts.proofs.StopLemmas.{err_of, ok_of}
use Rattle.wb_program.proofs.commands.certificate.answer_certificate.Goals as goal

pub returns-in_ok-answer-in-Ok : goal.returns-in_ok-answer-in-Ok
returns-in_ok-answer-in-Ok g c =
    let known = g.S.Shelf.files c.args.shelf.now in
    let operations = c.args.operations.now.signatures in
    let extensions = texts c.args.extensions.now in
    let all = c.in-Ok.all in
    let answer = c.in_ok-answer-in-Ok.field-0 in
    let are : AreRead operations known c.args.host.now extensions all =
    ok_of c.in_ok-all.field-0 all (AreRead operations known c.args.host.now extensions) c.in-Ok.is c.in_ok-all.ensures.ok in
    let checked : CertificateChecks all.host.resolved (all_resolved all.extensions.items) answer.status answer.report.items =
    subst (λ (list : List ExtensionView). CertificateChecks all.host.resolved (all_resolved list) answer.status answer.report.items)
    c.deref.ensures.value c.in_ok-answer-in-Ok.ensures in
    answered answer
    (several_read operations c.args.host.now extensions known CertificateChecks all answer.status answer.report.items are checked)
    c.read_composable.ensures.goes_on

pub returns-in-Err : goal.returns-in-Err
returns-in-Err g c =
    let known = g.S.Shelf.files c.args.shelf.now in
    let operations = c.args.operations.now.signatures in
    let extensions = texts c.args.extensions.now in
    let answer = c.in-Err.answer in
    answered answer
    (several_ended operations c.args.host.now extensions known CertificateChecks answer.status answer.report.items
    (err_of c.in_ok-all.field-0 answer (λ made. RefusesAny operations known c.args.host.now extensions made.status made.report.items)
    c.in-Err.is c.in_ok-all.ensures.refused))
    c.read_composable.ensures.goes_on

pub returns-in_err-answer-in-Ok : goal.returns-in_err-answer-in-Ok
returns-in_err-answer-in-Ok g c =
    exhausted c.from_residual-in_err-answer-in-Ok.result c.from_residual-in_err-answer-in-Ok.ensures.1 c.read_composable.ensures.goes_on

pub returns-in_err-all : goal.returns-in_err-all
returns-in_err-all g c =
    handed c.from_residual.result c.in_err-all.field-0.0 c.from_residual.ensures.1 c.in_err-all.ensures.stopped
    c.read_composable.ensures.goes_on
