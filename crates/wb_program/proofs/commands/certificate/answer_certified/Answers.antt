-- The certificate is shown.
use Rattle.wb_program_texts.specs.Unions.{all_resolved}
use Rattle.wb_program.proofs.CertificateLemmas.{shown_checks}
use Rattle.wb_program_texts.proofs.StopLemmas.{on_ok}
use Rattle.wb_program.specs.Commands.Certificate.{CertificateChecks}
use Rattle.wb_program.specs.Inner.Certificates.{ShownCertificate}
use Rattle.wb_program.proofs.commands.certificate.answer_certified.Goals as goal

pub returns : goal.returns
returns c =
    let host = c.args.host.now.resolved in
    let values = all_resolved c.args.extensions.now in
    let text = c.in_ok-text.text in
    on_ok c.shown_certificate.result (λ answer. ShownCertificate text answer.status answer.report.items)
    (λ answer. CertificateChecks host values answer.status answer.report.items)
    (λ answer shown. shown_checks host values text answer.status answer.report.items c.in_ok-text.ensures shown) c.shown_certificate.ensures
