-- That words have a report which ask for a command of certified files.
use Rattle.std.specs.Prelude.{◌≡◌, ℕ, Some, List, [], ◌∷◌}
use Rattle.wb_certify_files.specs.HostContents.{IsHostText}
use Rattle.wb_eval_theory.specs.Evaluable.{AreOperations}
use Rattle.wb_operations.specs.Operations.{Operations}
use Rattle.wb_syntax_resolved.specs.declared.resolved.ResolvedParts.{ResolvedParts}
use Rattle.wb_world.specs.Shelf.{Files}
use Rattle.wb_program_words.specs.Asked.{Asked}
use Rattle.wb_program_words.specs.Asked as a
use Rattle.wb_program_words.specs.Words.{Asks}
use Rattle.wb_certify_files.specs.RecheckedExtensions.{IsRecheckedNamed}
use Rattle.wb_certify_files.specs.RecheckedHosts.{IsRecheckedHost}
use Rattle.wb_program.specs.CertificateChecks.{IsPair}
use Rattle.wb_program.specs.Checks.{Report}
use Rattle.wb_program.specs.Files.{KnownFile}
use Rattle.wb_program.specs.Texts.{IsText}
use Rattle.wb_program.specs.status.Status.{Status}
use Rattle.wb_program.specs.status.Status.TheVariants.{Done, EditRefused, TooLongToPrint}
use Rattle.wb_program.specs.Report.{IsReport}
use Rattle.wb_program_theory.specs.Certified.{AreCertified}
use Rattle.wb_program_theory.specs.Laws.{IsAnswerStatus}
use Rattle.wb_program_theory.specs.Matching.{AllMatch}
use Rattle.wb_program_theory.specs.RunLaws.{IsRunStatus}

-- something is reported, with such a status
pub record IsReported (report : Report) (IsSuch : Status → Type 0) : Type 0 where
  pub status : Status
  pub bytes : List ℕ
  pub such : IsSuch status
  pub is : report status bytes

-- words and known files have a report, with such a status
abbrev pub HaveReport : Operations → List (List ℕ) → Files → (Status → Type 0) → Type 0
HaveReport operations words files IsSuch = IsReported (IsReport operations words (Some files)) IsSuch

-- where the words ask for `tree`, files are certified, and the text's file is known and isn't too long, they have a report of the text's
-- answer: that they have none can't be
abbrev pub HaveTreeReport : Type 0
HaveTreeReport = (operations : Operations) (words : List (List ℕ)) (files : Files) (text host : List ℕ) (extensions : List (List ℕ))
    (r : ResolvedParts) (values : List ResolvedParts) (contents : List ℕ) → Asks words (a.tree text host extensions)
    → AreCertified operations.signatures files host extensions r values → IsText (Some files) text contents
    → ¬ ¬ HaveReport operations words files IsAnswerStatus

-- the status is 0
abbrev pub IsDone : Status → Type 0
IsDone status = status ≡ Done

-- where the words ask for `check` and the file holds a certified host, they have a report with status 0
abbrev pub HaveCheckReport : Type 0
HaveCheckReport = (operations : Operations) (words : List (List ℕ)) (files : Files) (host : List ℕ) (r : ResolvedParts)
    → Asks words (a.check host) → KnownFile (Some files) host (λ contents. IsHostText operations.signatures contents r)
    → HaveReport operations words files IsDone

-- where they ask for `certify` and files are certified, they have one with status 0
abbrev pub HaveCertifyReport : Type 0
HaveCertifyReport = (operations : Operations) (words : List (List ℕ)) (files : Files) (host : List ℕ) (extensions : List (List ℕ))
    (r : ResolvedParts) (values : List ResolvedParts) → Asks words (a.certify host extensions)
    → AreCertified operations.signatures files host extensions r values → HaveReport operations words files IsDone

-- where they ask for `compose` and files are certified, they have one with status 0: that they have none can't be
abbrev pub HaveComposeReport : Type 0
HaveComposeReport = (operations : Operations) (words : List (List ℕ)) (files : Files) (host : List ℕ) (extensions : List (List ℕ))
    (r : ResolvedParts) (values : List ResolvedParts) → Asks words (a.compose host extensions)
    → AreCertified operations.signatures files host extensions r values → ¬ ¬ HaveReport operations words files IsDone

-- the status is 0, or says that what is to be printed is too long
abbrev pub IsPrintStatus : Status → Type 0
IsPrintStatus Done = Unit {0}
IsPrintStatus TooLongToPrint = Unit {0}
IsPrintStatus other = ⊥

-- where they ask for `certificate` and files are certified, they have one with such a status: that they have none can't be
abbrev pub HaveCertificateReport : Type 0
HaveCertificateReport = (operations : Operations) (words : List (List ℕ)) (files : Files) (host : List ℕ) (extensions : List (List ℕ))
    (r : ResolvedParts) (values : List ResolvedParts) → Asks words (a.certificate host extensions)
    → AreCertified operations.signatures files host extensions r values → ¬ ¬ HaveReport operations words files IsPrintStatus

-- where they ask for `recheck` of a host alone, the file holds one that is certified by the text that its certificate has, which isn't too
-- long, they have one with status 0
abbrev pub HaveRecheckReport : Type 0
HaveRecheckReport = (operations : Operations) (words : List (List ℕ)) (files : Files) (host certificate : List ℕ) (r : ResolvedParts)
    → Asks words (a.recheck host certificate [])
    → IsPair (Some files) host certificate (λ contents text. IsRecheckedHost operations.signatures contents text r)
    → HaveReport operations words files IsDone

-- and so where they ask for that of an extension too, which is certified with the host so
abbrev pub HaveRecheckedExtensionReport : Type 0
HaveRecheckedExtensionReport = (operations : Operations) (words : List (List ℕ)) (files : Files)
    (host certificate extension other : List ℕ) (r : ResolvedParts) (name : List ℕ)
    → Asks words (a.recheck host certificate (extension ∷ other ∷ []))
    → IsPair (Some files) host certificate (λ contents text. IsRecheckedHost operations.signatures contents text r)
    → IsPair (Some files) extension other (λ contents text. IsRecheckedNamed r operations.signatures contents text name)
    → HaveReport operations words files IsDone

-- where they ask for `reading`, files are certified, and the text's file is known and isn't too long, they have one with status 0: that
-- they have none can't be
abbrev pub HaveReadingReport : Type 0
HaveReadingReport = (operations : Operations) (words : List (List ℕ)) (files : Files) (text host : List ℕ) (extensions : List (List ℕ))
    (r : ResolvedParts) (values : List ResolvedParts) (contents : List ℕ) → Asks words (a.reading text host extensions)
    → AreCertified operations.signatures files host extensions r values → IsText (Some files) text contents
    → ¬ ¬ HaveReport operations words files IsDone

-- the file is there
abbrev pub IsThere : Files → List ℕ → Type 0
IsThere files file = (contents : List ℕ) × (files file ≡ Some contents)

-- the status is 0, or says that a list of edits is refused, or that what is to be printed is too long
abbrev pub IsEditStatus : Status → Type 0
IsEditStatus Done = Unit {0}
IsEditStatus EditRefused = Unit {0}
IsEditStatus TooLongToPrint = Unit {0}
IsEditStatus other = ⊥

-- where they ask for `edit`, files are certified, the text's file is known and isn't too long, and the file of edits is there, they have
-- one with such a status: that they have none can't be
abbrev pub HaveEditReport : Type 0
HaveEditReport = (operations : Operations) (words : List (List ℕ)) (files : Files) (text edits host : List ℕ)
    (extensions : List (List ℕ)) (r : ResolvedParts) (values : List ResolvedParts) (contents : List ℕ)
    → Asks words (a.edit text edits host extensions) → AreCertified operations.signatures files host extensions r values
    → IsText (Some files) text contents → IsThere files edits → ¬ ¬ HaveReport operations words files IsEditStatus

-- where the words ask for `run`, operations take and give plain values of their kinds, files are certified, and the text's file is there,
-- they have a report of what comes of the text and the attribute: that they have none can't be
abbrev pub HaveRunReport : Type 0
HaveRunReport = (operations : Operations) (words : List (List ℕ)) (files : Files) (text name : List ℕ) (steps : ℕ) (host : List ℕ)
    (extensions : List (List ℕ)) (r : ResolvedParts) (values : List ResolvedParts) → AreOperations operations
    → Asks words (a.run text name steps host extensions) → AreCertified operations.signatures files host extensions r values
    → IsThere files text → ¬ ¬ HaveReport operations words files IsRunStatus

-- any status
abbrev pub IsAny : Status → Type 0
IsAny status = Unit {0}

-- where the words ask for `generate`, operations take and give plain values of their kinds, files are certified, and each of their terminals
-- matches some text, they have a report of what the number makes and what comes of that: that they have none can't be
abbrev pub HaveGenerateReport : Type 0
HaveGenerateReport = (operations : Operations) (words : List (List ℕ)) (files : Files) (number size : ℕ) (name host : List ℕ)
    (extensions : List (List ℕ)) (r : ResolvedParts) (values : List ResolvedParts) → AreOperations operations → AllMatch r values
    → Asks words (a.generate number size name host extensions) → AreCertified operations.signatures files host extensions r values
    → ¬ ¬ HaveReport operations words files IsAny

-- what is asked of these files: `check`, `certify`, `compose`, `certificate`, or `tree`, `run` or `reading` where the text's file is there,
-- or `edit` where that and the file of edits are, or `generate` where each of their terminals matches some text
pub data IsAskedOf (files : Files) (host : List ℕ) (extensions : List (List ℕ)) (r : ResolvedParts) (values : List ResolvedParts)
    : Asked → Type 0 where
  of_check : IsAskedOf files host extensions r values (a.check host)
  of_certify : IsAskedOf files host extensions r values (a.certify host extensions)
  of_compose : IsAskedOf files host extensions r values (a.compose host extensions)
  of_certificate : IsAskedOf files host extensions r values (a.certificate host extensions)
  of_tree : {text : List ℕ} → IsThere files text → IsAskedOf files host extensions r values (a.tree text host extensions)
  of_run : {text name : List ℕ} {steps : ℕ} → IsThere files text
      → IsAskedOf files host extensions r values (a.run text name steps host extensions)
  of_generate : {number size : ℕ} {name : List ℕ} → AllMatch r values
      → IsAskedOf files host extensions r values (a.generate number size name host extensions)
  of_edit : {text edits : List ℕ} → IsThere files text → IsThere files edits
      → IsAskedOf files host extensions r values (a.edit text edits host extensions)
  of_reading : {text : List ℕ} → IsThere files text → IsAskedOf files host extensions r values (a.reading text host extensions)

-- where operations take and give plain values of their kinds, files are certified, and the words ask for one of these commands of them,
-- they have a report: that they have none can't be
abbrev pub HaveReports : Type 0
HaveReports = (operations : Operations) (words : List (List ℕ)) (files : Files) (host : List ℕ) (extensions : List (List ℕ))
    (r : ResolvedParts) (values : List ResolvedParts) (asked : Asked) → AreOperations operations
    → AreCertified operations.signatures files host extensions r values → IsAskedOf files host extensions r values asked → Asks words asked
    → ¬ ¬ HaveReport operations words files IsAny
