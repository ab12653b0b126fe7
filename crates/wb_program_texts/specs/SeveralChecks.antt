-- The checks of several extensions of a host, of which no two have one name, with which commands go on that compose them.
use Rattle.std.specs.Prelude.{◌≡◌, ◌≤◌, ◌⊎◌, ◌++◌, ℕ, Option, List, [], ◌∷◌, Contains, length, map}
use Rattle.wb_compose_texts.specs.Composed.{name_in}
use Rattle.wb_program_files.specs.ExtensionContents.{IsExtensionText, IsExtensionRefusal}
use Rattle.wb_program_files.specs.Specifications.{IsHeaderRefusal, IsSpecFor}
use Rattle.wb_program_files.specs.extension_refusal.FileRefusal.{FileRefusal}
use Rattle.wb_program_files.specs.extension_refusal.FileRefusal.TheVariants as f
use Rattle.wb_operations.specs.Operations.{OperationSignature}
use Rattle.wb_report.specs.Lines.{report_of}
use Rattle.wb_report.specs.declared.outcome.Outcome.TheVariants as o
use Rattle.wb_report.specs.declared.refusal.Refusal.{Refusal}
use Rattle.wb_syntax_resolved.specs.declared.resolved.ResolvedParts.{ResolvedParts}
use Rattle.wb_syntax.specs.SpecText.{SpecView}
use Rattle.wb_world.specs.Shelf.{Files}
use Rattle.wb_program_files.specs.Checks.{Report, Ends}
use Rattle.wb_program_files.specs.ExtensionChecks.{AreTooMany, IsForOtherHost}
use Rattle.wb_program_files.specs.HostChecks.{CertifiedChecks}
use Rattle.wb_program_files.specs.Files.{KnownFile}
use Rattle.wb_program_files.specs.declared.status.Status.TheVariants.{SpecRefused, NotCertified, TooManyExtensions, DuplicateExtension}
use Rattle.wb_program_files.specs.declared.status.Status.TheVariants.{WrongHost}

-- the names of extensions, each given by the host with it alone
abbrev pub names_of : List ResolvedParts → List (List ℕ)
names_of extensions = map name_in extensions

-- the contents are an extension of the host by what is written and by the first line, and it has this name
pub record HasName (host : ResolvedParts) (contents name : List ℕ) : Type 0 where
  pub spec : SpecView
  pub is : IsSpecFor host contents spec
  pub named : spec.name ≡ name

-- the contents are an extension of the host that has the name of one of these
pub record HasTakenName (host : ResolvedParts) (before : List ResolvedParts) (contents name : List ℕ) : Type 0 where
  pub named : HasName host contents name
  pub taken : Contains (names_of before) name

module _ (operations : List OperationSignature) (host : ResolvedParts) (before : List ResolvedParts) (contents : List ℕ) where
  -- the contents are a certified extension of the host, with another name than these, and stand with the host for this value
  pub record IsNextText (value : ResolvedParts) : Type 0 where
    pub name : List ℕ
    pub named : HasName host contents name
    pub new : ¬ Contains (names_of before) name
    pub text : IsExtensionText host operations contents value

  -- the contents are an extension with another name than these, and aren't certified for this reason
  pub record IsLaterRefusal (refusal : FileRefusal) : Type 0 where
    pub name : List ℕ
    pub named : HasName host contents name
    pub new : ¬ Contains (names_of before) name
    pub cause : IsExtensionRefusal host operations contents refusal

module _ (operations : List OperationSignature) (known : Option Files) (host : ResolvedParts) where
  -- the file is no extension of the host, by what is written or by the first line, and the line says why
  pub record RefusesHeader (file bytes : List ℕ) : Type 0 where
    pub shown : Refusal
    pub cause : KnownFile known file (λ contents. IsHeaderRefusal host contents (f.Specification shown))
    pub line : bytes ≡ report_of (o.Refused file shown)

  -- its name is that of one of these extensions, and the line says so
  pub record IsDuplicate (before : List ResolvedParts) (file bytes : List ℕ) : Type 0 where
    pub name : List ℕ
    pub cause : KnownFile known file (λ contents. HasTakenName host before contents name)
    pub line : bytes ≡ report_of (o.DuplicateExtension name)

  -- it has another name than these, and is no certified extension by a refusal of this sort, and the line says why
  pub record RefusesLater (before : List ResolvedParts) (file : List ℕ) (Sort : Refusal → FileRefusal) (bytes : List ℕ) : Type 0 where
    pub shown : Refusal
    pub cause : KnownFile known file (λ contents. IsLaterRefusal operations host before contents (Sort shown))
    pub line : bytes ≡ report_of (o.Refused file shown)

  -- an extension after these is refused: what is written or the first line is wrong, or it is for another host, or has the name of one
  -- before it, or else a rule of specifications fails that is left, or one of certification
  abbrev pub RefusesNext : List ResolvedParts → List ℕ → Report
  RefusesNext before file status bytes =
      Ends SpecRefused (RefusesHeader file) status bytes
      ⊎ Ends WrongHost (IsForOtherHost operations known host file) status bytes
      ⊎ Ends DuplicateExtension (IsDuplicate before file) status bytes
      ⊎ Ends SpecRefused (RefusesLater before file f.Specification) status bytes
      ⊎ Ends NotCertified (RefusesLater before file f.Certification) status bytes

  -- the file is a certified extension of the host, with another name than these, and stands with the host for this value
  abbrev pub IsNext : List ResolvedParts → List ℕ → ResolvedParts → Type 0
  IsNext before file value = KnownFile known file (λ contents. IsNextText operations host before contents value)

  -- of extensions in their order, after these, one is refused
  abbrev pub RefusesEach : List (List ℕ) → List ResolvedParts → Report
  RefusesEach [] before status bytes = ⊥
  RefusesEach (file ∷ files) before status bytes =
      RefusesNext before file status bytes
      ⊎ ((value : ResolvedParts) × IsNext before file value × RefusesEach files (before ++ value ∷ []) status bytes)

  -- all are certified with different names, and these are all values
  abbrev pub AreEach : List (List ℕ) → List ResolvedParts → List ResolvedParts → Type 0
  AreEach [] before values = values ≡ before
  AreEach (file ∷ files) before values =
      (value : ResolvedParts) × IsNext before file value × AreEach files (before ++ value ∷ []) values

  -- extensions in their order: one is refused, or the rest speaks of all values
  abbrev pub EachChecks : List (List ℕ) → (List ResolvedParts → Report) → Report
  EachChecks files rest status bytes =
      RefusesEach files [] status bytes ⊎ ((values : List ResolvedParts) × AreEach files [] values × rest values status bytes)

-- how many extensions there are, then the host, then each extension, and the rest speaks of the host and of all
abbrev pub SeveralChecks : List OperationSignature → Option Files → (host : List ℕ) → (extensions : List (List ℕ))
    → (ResolvedParts → List ResolvedParts → Report) → Report
SeveralChecks operations known host extensions rest status bytes =
    Ends TooManyExtensions (AreTooMany extensions) status bytes
    ⊎ ((length extensions ≤ 64)
    × CertifiedChecks operations known host (λ r. EachChecks operations known r extensions (rest r)) status bytes)
