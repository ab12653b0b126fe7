-- What is reported of files that hold a certified host and certified extensions: no refusal.
use Rattle.std.specs.Prelude.{◌≡◌, ◌≤◌, ◌↔◌, ℕ, Option, Some, List, [], length}
use Rattle.wb_base.specs.Different.{Differ}
use Rattle.wb_certify_files.specs.HostContents.{IsHostText}
use Rattle.wb_operations.specs.Operations.{OperationSignature, Operations}
use Rattle.wb_syntax_resolved.specs.declared.resolved.ResolvedParts.{ResolvedParts}
use Rattle.wb_world.specs.Shelf.{Files}
use Rattle.wb_program.specs.Checks.{Check, Ends, Report}
use Rattle.wb_program.specs.Files.{KnownFile}
use Rattle.wb_program.specs.SeveralChecks.{AreEach, names_of}
use Rattle.wb_program.specs.Texts.{IsText, IsTooLongText}
use Rattle.wb_program.specs.status.Status.{Status}
use Rattle.wb_program.specs.status.Status.TheVariants.{Done, DuplicateExtension, NotCertified, SpecRefused, TextTooLong, CertificateRefused}
use Rattle.wb_program.specs.status.Status.TheVariants.{TooManyExtensions, WrongHost}
use Rattle.wb_program.specs.Commands.Generate.{GenerateChecks, GenerateReport}
use Rattle.wb_program.specs.Commands.Run.{RunChecks, RunReport}
use Rattle.wb_program.specs.Commands.Certificate.{CertificateChecks, CertificateReport}
use Rattle.wb_program.specs.Commands.Compose.{ComposeReport, ComposedLines}
use Rattle.wb_program.specs.Commands.Edit.{EditReport, EditsReport}
use Rattle.wb_program.specs.Commands.Reading.{ReadingReport, TextReadingReport}
use Rattle.wb_program.specs.Commands.Tree.{TextReport, TreeReport}

-- the files hold a certified host of this value, and at most 64 extensions of these values, each certified with the host and with another
-- name than those before it
pub record AreCertified (operations : List OperationSignature) (files : Files) (host : List ℕ) (extensions : List (List ℕ))
    (r : ResolvedParts) (values : List ResolvedParts) : Type 0 where
  pub is_host : KnownFile (Some files) host (λ contents. IsHostText operations contents r)
  pub few : length extensions ≤ 64
  pub each : AreEach operations (Some files) r extensions [] values

-- what `compose` reports of a host and extensions: the lines of what is composed
abbrev pub ComposeChecks : List OperationSignature → ResolvedParts → List ResolvedParts → Report
ComposeChecks operations host extensions = Ends Done (ComposedLines operations host extensions)

-- what `tree` reports of a host and extensions: that the text is too long, or the text's answer in their language
abbrev pub TreeChecks : List OperationSignature → Option Files → (text : List ℕ) → ResolvedParts → List ResolvedParts → Report
TreeChecks operations known file host extensions =
    Check TextTooLong (IsTooLongText known file) (IsText known file) (λ (text : List ℕ). TextReport operations host extensions text)

-- what `reading` reports of them: that the text is too long, or the text's reading in their language
abbrev pub ReadingChecks : List OperationSignature → Option Files → (text : List ℕ) → ResolvedParts → List ResolvedParts → Report
ReadingChecks operations known file host extensions =
    Check TextTooLong (IsTooLongText known file) (IsText known file) (λ (text : List ℕ). TextReadingReport operations host extensions text)

-- what `edit` reports of them: that the text is too long, or what becomes of it by the edits of a file in their language
abbrev pub EditChecks : List OperationSignature → Option Files → (text edits : List ℕ) → ResolvedParts → List ResolvedParts → Report
EditChecks operations known file edits host extensions =
    Check TextTooLong (IsTooLongText known file) (IsText known file)
    (λ (text : List ℕ). EditsReport operations known edits host extensions text)

-- a status that says that a host, an extension or a certificate is refused, or that there are too many extensions: 3, 4, 14, 15, 16 or 20
abbrev pub IsRefusalStatus : Status → Type 0
IsRefusalStatus SpecRefused = Unit {0}
IsRefusalStatus NotCertified = Unit {0}
IsRefusalStatus TooManyExtensions = Unit {0}
IsRefusalStatus DuplicateExtension = Unit {0}
IsRefusalStatus WrongHost = Unit {0}
IsRefusalStatus CertificateRefused = Unit {0}
IsRefusalStatus other = ⊥

-- the whole report is its rest, and has no status of a refusal
pub record IsItsRest (whole rest : Report) : Type 0 where
  pub same : (status : Status) (bytes : List ℕ) → whole status bytes ↔ rest status bytes
  pub accepted : (status : Status) (bytes : List ℕ) → whole status bytes → ¬ IsRefusalStatus status

-- each command that composes, and `certificate`, reports of the files what comes after their checks, of the host and extensions of these
-- values, and no refusal
pub record HaveNoRefusal (operations : Operations) (files : Files) (host : List ℕ) (extensions : List (List ℕ)) (r : ResolvedParts)
    (values : List ResolvedParts) : Type 0 where
  pub compose : IsItsRest (ComposeReport operations.signatures (Some files) host extensions) (ComposeChecks operations.signatures r values)
  pub tree : (text : List ℕ)
      → IsItsRest (TreeReport operations.signatures (Some files) text host extensions)
      (TreeChecks operations.signatures (Some files) text r values)
  pub run : (text name : List ℕ) (steps : ℕ)
      → IsItsRest (RunReport operations (Some files) text name steps host extensions)
      (RunChecks operations (Some files) text name steps r values)
  pub generate : (number size : ℕ) (name : List ℕ)
      → IsItsRest (GenerateReport operations (Some files) number size name host extensions)
      (GenerateChecks operations number size name r values)
  pub certificate : IsItsRest (CertificateReport operations.signatures (Some files) host extensions) (CertificateChecks r values)
  pub edit : (text edits : List ℕ)
      → IsItsRest (EditReport operations.signatures (Some files) text edits host extensions)
      (EditChecks operations.signatures (Some files) text edits r values)
  pub reading : (text : List ℕ)
      → IsItsRest (ReadingReport operations.signatures (Some files) text host extensions)
      (ReadingChecks operations.signatures (Some files) text r values)

-- the files hold no other certified host and extensions than these, whose names differ
pub record HaveOneValue (operations : List OperationSignature) (files : Files) (host : List ℕ) (extensions : List (List ℕ))
    (r : ResolvedParts) (values : List ResolvedParts) : Type 0 where
  pub host_value : (q : ResolvedParts) (others : List ResolvedParts) → AreCertified operations files host extensions q others → q ≡ r
  pub extension_values : (q : ResolvedParts) (others : List ResolvedParts) → AreCertified operations files host extensions q others
      → others ≡ values
  pub names : Differ (names_of values)
