-- The certificate is the host's where there is no extension, and else that of the first.
use Rattle.std.proofs.Common.{List, Option, ℕ, arith}
use Rattle.wb_program_texts.specs.Unions.{all_resolved}
use Rattle.wb_program_texts.specs.CertificateTexts.{IsExtensionCertificate, IsHostCertificate}
use Rattle.wb_program.specs.Commands.Certificate.{IsCertificateOf}
use Rattle.wb_program.specs.Inner.Certificates.{IsTextOrTooLong}
use Rattle.wb_program.proofs.CertificateLemmas.{of_extension, of_host}
use Rattle.wb_program_texts.proofs.StopLemmas.{on_ok}
use Rattle.wb_program.proofs.commands.certificate.certificate_of.Goals as goal

pub returns-in-empty : goal.returns-in-empty
returns-in-empty c =
    let host = c.args.host.now.resolved in
    let extensions = c.args.extensions.now in
    on_ok c.host_certificate.result (IsTextOrTooLong (IsHostCertificate host))
    (IsTextOrTooLong (IsCertificateOf host (all_resolved extensions)))
    (λ (made : Option (List ℕ)) is. of_host host extensions made c.in-empty.len_below is) c.host_certificate.ensures

pub returns-in-len1-up : goal.returns-in-len1-up
returns-in-len1-up c =
    let host = c.args.host.now.resolved in
    let extensions = c.args.extensions.now in
    let first = c.extension-item.result in
    on_ok c.extension_certificate.result (IsTextOrTooLong (IsExtensionCertificate first.resolved))
    (IsTextOrTooLong (IsCertificateOf host (all_resolved extensions)))
    (λ (made : Option (List ℕ)) is. of_extension host extensions first made c.in-len1-up.len_at_least c.extension-item.is is)
    c.extension_certificate.ensures
