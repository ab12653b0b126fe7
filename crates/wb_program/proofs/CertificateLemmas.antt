-- What is reported of a certificate is the certificate, or that it is too long to print.
use Rattle.std.proofs.Common.{◌≡◌, ◌<◌, ◌≤◌, inl, inr, ℕ, List, [], ◌∷◌, Option, Some, None, arith, get_or, length, sym, subst}
use Rattle.wb_program_texts.specs.Kept.{ExtensionView}
use Rattle.wb_program_texts.specs.Unions.{all_resolved}
use Rattle.wb_program_texts.specs.CertificateTexts.{IsExtensionCertificate, IsHostCertificate}
use Rattle.wb_syntax_resolved.specs.declared.resolved.ResolvedParts.{ResolvedParts}
use Rattle.wb_program.specs.Commands.Certificate.{CertificateChecks, IsCertificateOf}
use Rattle.wb_program.specs.Inner.Certificates.{IsTextOrTooLong, ShownCertificate}
use Rattle.wb_program_texts.specs.status.Status.{Status}

-- where there is no extension it is the host's
pub of_host : (host : ResolvedParts) (extensions : List ExtensionView) (made : Option (List ℕ)) → length extensions < 1
    → IsTextOrTooLong (IsHostCertificate host) made → IsTextOrTooLong (IsCertificateOf host (all_resolved extensions)) made
of_host host [] made few is = is
of_host host (e ∷ others) made few is = absurd (omega arith)

-- where there is one it is that of the extension
pub of_extension : (host : ResolvedParts) (extensions : List ExtensionView) (first : ExtensionView) (made : Option (List ℕ))
    → 1 ≤ length extensions → first ≡ get_or extensions 0 first → IsTextOrTooLong (IsExtensionCertificate first.resolved) made
    → IsTextOrTooLong (IsCertificateOf host (all_resolved extensions)) made
of_extension host [] first made some at is = absurd (omega arith)
of_extension host (e ∷ others) first made some at is =
    subst (λ (x : ExtensionView). IsTextOrTooLong (IsExtensionCertificate x.resolved) made) at is

-- what is shown of it
pub shown_checks : (host : ResolvedParts) (extensions : List ResolvedParts) (made : Option (List ℕ)) (s : Status) (bytes : List ℕ)
    → IsTextOrTooLong (IsCertificateOf host extensions) made → ShownCertificate made s bytes → CertificateChecks host extensions s bytes
shown_checks host extensions (Some text) s bytes (is, short) (ends, same) = inr (
  ends,
  record {
    is = subst (IsCertificateOf host extensions) (sym same) is;
    short = subst (λ (z : List ℕ). length z ≤ 16777216) (sym same) short;
  },
)
shown_checks host extensions None s bytes long (ends, line) = inl (ends, record { long = long; line = line })
