-- What is made of the file of an extension after others, and of several in their order.
use Rattle.std.specs.Prelude.{◌≡◌, ℕ, List, Option, [], Contains, drop}
use Rattle.wb_program_files.specs.Kept.{ExtensionView}
use Rattle.wb_program_files.specs.Hosts.{CertifiedView}
use Rattle.wb_compose_texts.specs.Composed.{IsWith, name_of}
use Rattle.wb_program_files.specs.Specifications.{IsHeaderRefusal, IsSpecFor}
use Rattle.wb_program_files.specs.extension_refusal.FileRefusal.TheVariants as f
use Rattle.wb_operations.specs.Operations.{OperationSignature}
use Rattle.wb_report.specs.Lines.{report_of}
use Rattle.wb_report.specs.declared.outcome.Outcome.TheVariants as o
use Rattle.wb_syntax_resolved.specs.declared.resolved.ResolvedParts.{ResolvedParts}
use Rattle.wb_syntax.specs.SpecText.{SpecView}
use Rattle.wb_compose_texts.specs.Unions.{all_resolved}
use Rattle.wb_world.specs.Shelf.{Files}
use Rattle.wb_program_files.specs.Checks.{Report, Ends}
use Rattle.wb_program_texts.specs.SeveralStops.{StopsEach}
use Rattle.wb_program_texts.specs.SeveralChecks.{AreEach, HasTakenName, IsLaterRefusal, IsNextText, RefusesEach, names_of}
use Rattle.wb_program_texts.specs.Composable.{AreApart}
use Rattle.wb_program_files.specs.ExtensionChecks.{RefusedExtension}
use Rattle.wb_program_files.specs.Stopped.{Outside, Stopped}
use Rattle.wb_program_texts.specs.declared.composable.Composable.{Composable}
use Rattle.wb_program_files.specs.declared.files.ReadFailure.{ReadFailure}
use Rattle.wb_program_texts.specs.declared.several.NextRefusal.{NextRefusal}
use Rattle.wb_program_texts.specs.declared.several.NextRefusal.TheVariants as n
use Rattle.wb_program_files.specs.declared.status.Status.{Status}
use Rattle.wb_program_files.specs.declared.status.Status.TheVariants.{DuplicateExtension}

module _ (operations : List OperationSignature) (host : ResolvedParts) (before : List ResolvedParts) where
  -- why contents are no extension after these
  abbrev pub IsNextRefusal : List ℕ → NextRefusal → Type 0
  IsNextRefusal contents (n.Header refusal) = IsHeaderRefusal host contents refusal
  IsNextRefusal contents (n.Duplicate name) = HasTakenName host before contents name
  IsNextRefusal contents (n.Later refusal) = IsLaterRefusal operations host before contents refusal

  -- contents that are this specification are an extension after these, and stand with the host for this value
  abbrev pub IsNextSpec : SpecView → ResolvedParts → Type 0
  IsNextSpec spec value =
      (contents : List ℕ) → IsSpecFor host contents spec → IsNextText operations host before contents value

  -- contents that are this specification are no extension after these, for this reason
  abbrev pub IsNextSpecRefusal : SpecView → NextRefusal → Type 0
  IsNextSpecRefusal spec refusal = (contents : List ℕ) → IsSpecFor host contents spec → IsNextRefusal contents refusal

-- the refusal is for this name, which is taken, or it is that memory ran out
abbrev pub IsDuplicateOf : List ℕ → NextRefusal → Type 0
IsDuplicateOf name (n.Duplicate other) = other ≡ name
IsDuplicateOf name (n.Header (f.NoMemory error)) = Unit {0}
IsDuplicateOf name other = ⊥

-- the extension is with the host, and has another name than these
pub record IsApartFrom (host : CertifiedView) (before : List ExtensionView) (e : ExtensionView) : Type 0 where
  pub with_host : IsWith host e
  pub new : ¬ Contains (names_of (all_resolved before)) (name_of e)

-- these are the host and extensions of files, which are certified with it and have different names
pub record AreWith (operations : List OperationSignature) (known : Option Files) (host : CertifiedView) (files : List (List ℕ))
    (all : Composable) : Type 0 where
  pub same : all.host ≡ host
  pub each : AreEach operations known host.resolved files [] (all_resolved all.extensions.items)
  pub apart : AreApart host all.extensions.items

-- a refused extension: the status of its sort, and the line that says why; out of memory has no line
abbrev pub RefusedNext : List ℕ → NextRefusal → Report
RefusedNext file (n.Header refusal) = RefusedExtension file refusal
RefusedNext file (n.Duplicate name) = Ends DuplicateExtension (λ bytes. bytes ≡ report_of (o.DuplicateExtension name))
RefusedNext file (n.Later refusal) = RefusedExtension file refusal

module _ (operations : List OperationSignature) (before : Outside) (host : ResolvedParts) (files : List (List ℕ)) where
  -- what is found of the extensions from a place on, after certified ones of these values, is found of all of them
  pub record IsReached (at : ℕ) (values : List ResolvedParts) : Type 0 where
    pub all_are : (all : List ResolvedParts) → AreEach operations before.files host (drop at files) values all
        → AreEach operations before.files host files [] all
    pub refused : (status : Status) (bytes : List ℕ) → RefusesEach operations before.files host (drop at files) values status bytes
        → RefusesEach operations before.files host files [] status bytes
    pub stopped : (now : Outside) (failure : ReadFailure)
        → Stopped before now (λ P. StopsEach operations before.files host P (drop at files) values) failure
        → Stopped before now (λ P. StopsEach operations before.files host P files []) failure
