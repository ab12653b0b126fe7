-- What `certify HOST EXT..` reports, and at which files it may stop.
use Rattle.std.specs.Prelude.{◌≡◌, ◌≤◌, ◌⊎◌, ◌++◌, ℕ, Option, List, [], ◌∷◌, length, map}
use Rattle.wb_certify_files.specs.Extensions.{IsOneExtension}
use Rattle.wb_certify_files.specs.ExtensionContents.{IsExtensionText, IsExtensionRefusal}
use Rattle.wb_certify_files.specs.declared.extension_refusal.FileRefusal.{FileRefusal}
use Rattle.wb_certify_files.specs.declared.extension_refusal.FileRefusal.TheVariants as f
use Rattle.wb_operations.specs.Operations.{OperationSignature}
use Rattle.wb_report.specs.Lines.{report_of}
use Rattle.wb_report.specs.declared.done.Done.TheVariants as done
use Rattle.wb_report.specs.declared.outcome.Outcome.TheVariants as o
use Rattle.wb_report.specs.declared.refusal.Refusal.{Refusal}
use Rattle.wb_syntax_resolved.specs.declared.resolved.ResolvedParts.{ResolvedParts}
use Rattle.wb_world.specs.Shelf.{Files}
use Rattle.wb_program_files.specs.Checks.{Report, Ends}
use Rattle.wb_program_files.specs.HostChecks.{CertifiedChecks}
use Rattle.wb_program_files.specs.Files.{KnownFile}
use Rattle.wb_program_files.specs.declared.status.Status.TheVariants.{Done, SpecRefused, NotCertified, TooManyExtensions, WrongHost}
use Rattle.wb_program_files.specs.ExtensionChecks.{AreTooMany, IsForOtherHost}
use Rattle.wb_program_files.specs.Stops.{certified_host, certified_extension, StopsAt}

module _ (operations : List OperationSignature) (known : Option Files) (host : ResolvedParts) where
  -- the file is no certified extension of the host by a refusal of this sort, and the line says why
  pub record RefusesExtension (file : List ℕ) (Sort : Refusal → FileRefusal) (bytes : List ℕ) : Type 0 where
    pub shown : Refusal
    pub cause : KnownFile known file (λ contents. IsExtensionRefusal host operations contents (Sort shown))
    pub line : bytes ≡ report_of (o.Refused file shown)

  -- the file is a certified extension of the host, and this is the extension's name
  pub record IsExtensionNamed (file name : List ℕ) : Type 0 where
    pub value : ResolvedParts
    pub contents : KnownFile known file (λ contents. IsExtensionText host operations contents value)
    pub named : IsOneExtension value name

  -- an extension: a rule of specifications fails, or it is for another host, or a rule of certification fails, or it is certified and the
  -- rest speaks of its name
  abbrev pub ExtensionChecks : List ℕ → (List ℕ → Report) → Report
  ExtensionChecks file rest status bytes =
      Ends SpecRefused (RefusesExtension file f.Specification) status bytes
      ⊎ Ends WrongHost (IsForOtherHost operations known host file) status bytes
      ⊎ Ends NotCertified (RefusesExtension file f.Certification) status bytes
      ⊎ ((name : List ℕ) × IsExtensionNamed file name × rest name status bytes)

  -- extensions in their order, after certified ones of these names, and that all are certified
  abbrev pub ExtensionsReport : List (List ℕ) → List (List ℕ) → Report
  ExtensionsReport [] names = Ends Done (λ line. line ≡ report_of (o.Done (done.Certified host.host names)))
  ExtensionsReport (file ∷ files) names = ExtensionChecks file (λ name. ExtensionsReport files (names ++ name ∷ []))

-- how many extensions there are, then the host, then each extension
abbrev pub CertifyReport : List OperationSignature → Option Files → List ℕ → List (List ℕ) → Report
CertifyReport operations known host extensions status bytes =
    Ends TooManyExtensions (AreTooMany extensions) status bytes
    ⊎ ((length extensions ≤ 64)
    × CertifiedChecks operations known host (λ r. ExtensionsReport operations known r extensions []) status bytes)

-- a run stops at the host or, where there aren't too many, at one of the extensions
abbrev pub CertifyStops : List OperationSignature → Option Files → List ℕ → List (List ℕ) → (List ℕ → Type 0) → Type 0
CertifyStops operations known host extensions P =
    (length extensions ≤ 64) × StopsAt operations known P (certified_host host ∷ map (certified_extension host) extensions)
