-- The checks of a host with which commands begin, and what is made of its file.
use Rattle.std.specs.Prelude.{◌≡◌, ◌⊎◌, ℕ, Option, List}
use Rattle.wb_certify_files.specs.HostContents.{IsHostText, IsHostRefusal}
use Rattle.wb_certify_files.specs.declared.host_refusal.HostRefusal.{HostRefusal}
use Rattle.wb_certify_files.specs.declared.host_refusal.HostRefusal.TheVariants as h
use Rattle.wb_operations.specs.Operations.{OperationSignature}
use Rattle.wb_report.specs.Lines.{report_of}
use Rattle.wb_report.specs.declared.outcome.Outcome.TheVariants as o
use Rattle.wb_report.specs.declared.refusal.Refusal.{Refusal}
use Rattle.wb_syntax_resolved.specs.declared.resolved.ResolvedParts.{ResolvedParts}
use Rattle.wb_world.specs.Shelf.{Files}
use Rattle.wb_certify_files.specs.WellDefined.{IsWellDefinedText, IsWellDefinedTextRefusal}
use Rattle.wb_certify_files.specs.Hosts.{IsCertifiedValue}
use Rattle.wb_program_files.specs.Checks.{Report, Ends}
use Rattle.wb_program_files.specs.Files.{KnownFile}
use Rattle.wb_program_files.specs.declared.status.Status.TheVariants.{SpecRefused, NotCertified}

-- the file is no such host by a refusal of this sort, and the line says why
pub record RefusesContents (IsRefused : List ℕ → HostRefusal → Type 0) (known : Option Files) (file : List ℕ) (Sort : Refusal → HostRefusal)
    (bytes : List ℕ) : Type 0 where
  pub shown : Refusal
  pub cause : KnownFile known file (λ contents. IsRefused contents (Sort shown))
  pub line : bytes ≡ report_of (o.Refused file shown)

-- the file is no such host: the status of the sort of its refusal, and the line that says why
abbrev pub RefusesHost : (List ℕ → HostRefusal → Type 0) → Option Files → List ℕ → Report
RefusesHost IsRefused known file status bytes =
    Ends SpecRefused (RefusesContents IsRefused known file h.Specification) status bytes
    ⊎ Ends NotCertified (RefusesContents IsRefused known file h.Certification) status bytes

-- the host, by which contents are one and why they aren't: a rule of specifications fails, or one of certification, or it is one and the
-- rest speaks of its value
abbrev pub HostChecks : (List ℕ → ResolvedParts → Type 0) → (List ℕ → HostRefusal → Type 0) → Option Files → List ℕ
    → (ResolvedParts → Report) → Report
HostChecks IsHost IsRefused known file rest status bytes =
    Ends SpecRefused (RefusesContents IsRefused known file h.Specification) status bytes
    ⊎ Ends NotCertified (RefusesContents IsRefused known file h.Certification) status bytes
    ⊎ ((r : ResolvedParts) × KnownFile known file (λ contents. IsHost contents r) × rest r status bytes)

-- the checks of a host that is certified
abbrev pub CertifiedChecks : List OperationSignature → Option Files → List ℕ → (ResolvedParts → Report) → Report
CertifiedChecks operations = HostChecks (IsHostText operations) (IsHostRefusal operations)

-- the checks of a host whose attributes are well defined
abbrev pub WellDefinedChecks : List OperationSignature → Option Files → List ℕ → (ResolvedParts → Report) → Report
WellDefinedChecks operations = HostChecks (IsWellDefinedText operations) (IsWellDefinedTextRefusal operations)

-- the file is a certified host of this value
pub record IsHostFile (operations : List OperationSignature) (known : Option Files) (file : List ℕ) (r : ResolvedParts) : Type 0 where
  pub certified : IsCertifiedValue r operations
  pub contents : KnownFile known file (λ contents. IsHostText operations contents r)
