-- What `certificate HOST [EXT]` reports.
use Rattle.std.specs.Prelude.{◌≡◌, ◌<◌, ◌≤◌, ◌⊎◌, ℕ, Option, List, [], ◌∷◌, length}
use Rattle.wb_operations.specs.Operations.{OperationSignature}
use Rattle.wb_program_texts.specs.CertificateTexts.{IsExtensionCertificate, IsHostCertificate}
use Rattle.wb_report.specs.Lines.{report_of}
use Rattle.wb_report.specs.declared.outcome.Outcome.TheVariants as o
use Rattle.wb_syntax_resolved.specs.declared.resolved.ResolvedParts.{ResolvedParts}
use Rattle.wb_world.specs.Shelf.{Files}
use Rattle.wb_program_texts.specs.Checks.{Report, Ends}
use Rattle.wb_program_texts.specs.SeveralChecks.{SeveralChecks}
use Rattle.wb_program_texts.specs.status.Status.TheVariants.{Done, TooLongToPrint}

-- the text is the certificate of the host, or where there is an extension, of that, which is given by the host with it
abbrev pub IsCertificateOf : ResolvedParts → List ResolvedParts → List ℕ → Type 0
IsCertificateOf host [] = IsHostCertificate host
IsCertificateOf host (extension ∷ others) = IsExtensionCertificate extension

module _ (host : ResolvedParts) (extensions : List ResolvedParts) where
  -- the bytes are the certificate, which isn't too long to print
  pub record IsCertificate (bytes : List ℕ) : Type 0 where
    pub is : IsCertificateOf host extensions bytes
    pub short : length bytes ≤ 16777216

  -- the certificate is too long to print, and the line says so
  pub record IsTooLongCertificate (bytes : List ℕ) : Type 0 where
    pub long : (text : List ℕ) → IsCertificateOf host extensions text → 16777216 < length text
    pub line : bytes ≡ report_of o.TooLongToPrint

  -- the certificate is too long, or it is the report
  abbrev pub CertificateChecks : Report
  CertificateChecks status bytes = Ends TooLongToPrint IsTooLongCertificate status bytes ⊎ Ends Done IsCertificate status bytes

-- the host and the extension, if there is one, and then the certificate
abbrev pub CertificateReport : List OperationSignature → Option Files → (host : List ℕ) → (extensions : List (List ℕ)) → Report
CertificateReport operations known host extensions = SeveralChecks operations known host extensions CertificateChecks
