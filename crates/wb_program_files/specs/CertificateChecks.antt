-- The checks of a file with its certificate.
use Rattle.std.specs.Prelude.{◌≡◌, ◌<◌, ◌≤◌, ◌⊎◌, ℕ, Option, List, length}
use Rattle.wb_certify_files.specs.declared.contents_refusal.ContentsRefusal.{ContentsRefusal}
use Rattle.wb_certify_files.specs.declared.contents_refusal.ContentsRefusal.TheVariants as k
use Rattle.wb_report.specs.Lines.{report_of}
use Rattle.wb_report.specs.declared.certificate_reason.CertificateReason.{CertificateReason}
use Rattle.wb_report.specs.declared.certificate_reason.CertificateReason.TheVariants as q
use Rattle.wb_report.specs.declared.outcome.Outcome.TheVariants as o
use Rattle.wb_report.specs.declared.refusal.Refusal.TheVariants as r
use Rattle.wb_world.specs.Shelf.{Files}
use Rattle.wb_program_files.specs.Checks.{Report, Ends}
use Rattle.wb_program_files.specs.ExtensionChecks.{RefusedExtension}
use Rattle.wb_program_files.specs.Files.{KnownFile}
use Rattle.wb_program_files.specs.declared.status.Status.{Status}
use Rattle.wb_program_files.specs.declared.status.Status.TheVariants.{CertificateRefused}

-- a refused certificate: its status, and the line that says why
abbrev pub RefusedCertificate : (certificate : List ℕ) → CertificateReason → Report
RefusedCertificate certificate reason =
    Ends CertificateRefused (λ bytes. bytes ≡ report_of (o.Refused certificate (r.Certificate reason)))

-- a file that is refused with its certificate: the status and the line of the one or the other; out of memory has no line
abbrev pub RefusedPair : (file certificate : List ℕ) → ContentsRefusal → Report
RefusedPair file certificate (k.File refusal) = RefusedExtension file refusal
RefusedPair file certificate (k.Certificate reason) = RefusedCertificate certificate reason

-- the report shows one kernel of those of which a certificate lacks something
pub record ShowsKernel (status : Status) (bytes : List ℕ) : Type 0 where
  pub refused : status ≡ CertificateRefused
  pub file : List ℕ
  pub kernel : ℕ
  pub line : bytes ≡ report_of (o.Refused file (r.Certificate (q.Missing kernel)))

module _ (known : Option Files) (file certificate : List ℕ) where
  -- the file is there, its certificate has more bytes than one may have, and the line says so
  pub record HasTooLongCertificate (status : Status) (bytes : List ℕ) : Type 0 where
    pub there : KnownFile known file (λ contents. Unit {0})
    pub long : KnownFile known certificate (λ text. 16777216 < length text)
    pub line : RefusedCertificate certificate q.TooLong status bytes

  -- it hasn't, and this holds of the contents of the file and of its text
  pub record IsPair (Holds : List ℕ → List ℕ → Type 0) : Type 0 where
    pub short : KnownFile known certificate (λ text. length text ≤ 16777216)
    pub both : KnownFile known file (λ contents. KnownFile known certificate (Holds contents))

  -- it hasn't, and the contents aren't certified by its text for a reason that the line says
  pub record IsRefusedBy (IsRefused : List ℕ → List ℕ → ContentsRefusal → Type 0) (status : Status) (bytes : List ℕ) : Type 0 where
    pub refusal : ContentsRefusal
    pub cause : IsPair (λ contents text. IsRefused contents text refusal)
    pub line : RefusedPair file certificate refusal status bytes

  -- the file with its certificate, by which contents are certified by a text and why they aren't: the certificate is too long, or one of
  -- both is refused, or the contents are certified by the text, and the rest speaks of what they are
  abbrev pub WithCertificate : {X : Type 0} (Is : List ℕ → List ℕ → X → Type 0) (IsRefused : List ℕ → List ℕ → ContentsRefusal → Type 0)
      → (X → Report) → Report
  WithCertificate {X} Is IsRefused rest status bytes =
      HasTooLongCertificate status bytes ⊎ IsRefusedBy IsRefused status bytes
      ⊎ ((x : X) × IsPair (λ contents text. Is contents text x) × rest x status bytes)
