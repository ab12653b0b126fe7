-- What each command reports, and which files it comes to read.
-- The report of each is in a file of its own, here or in a crate below.
pub mod Compose
pub mod Certificate
pub use Rattle.wb_program_texts.specs.Commands.Show
pub use Rattle.wb_program_texts.specs.Commands.Check
pub use Rattle.wb_program_texts.specs.Commands.Certify
pub use Rattle.wb_program_texts.specs.Commands.Tree
pub use Rattle.wb_program_texts.specs.Commands.Reading
pub use Rattle.wb_program_texts.specs.Commands.Value
pub use Rattle.wb_program_texts.specs.Commands.Run
pub use Rattle.wb_program_texts.specs.Commands.Generate
pub use Rattle.wb_program_texts.specs.Commands.Recheck
pub use Rattle.wb_program_texts.specs.Commands.Edit
use Rattle.std.specs.Prelude.{◌≤◌, ℕ, Option, List, [], ◌∷◌, length, map}
use Rattle.wb_operations.specs.Operations.{Operations, OperationSignature}
use Rattle.wb_program_words.specs.Asked.{Asked}
use Rattle.wb_program_words.specs.Asked as a
use Rattle.wb_world.specs.Shelf.{Files}
use Rattle.wb_program.specs.Commands.Certificate.{CertificateReport}
use Rattle.wb_program_texts.specs.Commands.Certify.{CertifyReport}
use Rattle.wb_program_texts.specs.Commands.Check.{CheckReport}
use Rattle.wb_program.specs.Commands.Compose.{ComposeReport}
use Rattle.wb_program_texts.specs.Commands.Edit.{EditReport, EditStops}
use Rattle.wb_program_texts.specs.Commands.Generate.{GenerateReport}
use Rattle.wb_program_texts.specs.Commands.Reading.{ReadingReport}
use Rattle.wb_program_texts.specs.Commands.Recheck.{RecheckReport, rechecked_reads}
use Rattle.wb_program_texts.specs.Commands.Run.{RunReport, RunStops}
use Rattle.wb_program_texts.specs.Commands.Show.{ShowReport}
use Rattle.wb_program_texts.specs.Stops.{certified_extension, certified_host, specification, well_defined_host, written_term, StopsAt}
use Rattle.wb_program_texts.specs.SeveralStops.{StopsComposed}
use Rattle.wb_program_texts.specs.Commands.Tree.{TreeReport}
use Rattle.wb_program_texts.specs.Commands.Value.{ValueReport}
use Rattle.wb_program_texts.specs.status.Status.{Status}

-- the report of what is asked
abbrev pub IsReportOf : Operations → Option Files → Status → List ℕ → Asked → Type 0
IsReportOf operations known status bytes (a.value host term attribute) = ValueReport operations known host term attribute status bytes
IsReportOf operations known status bytes (a.show file) = ShowReport known file status bytes
IsReportOf operations known status bytes (a.check host) = CheckReport operations.signatures known host status bytes
IsReportOf operations known status bytes (a.certify host extensions) = CertifyReport operations.signatures known host extensions status bytes
IsReportOf operations known status bytes (a.compose host extensions) = ComposeReport operations.signatures known host extensions status bytes
IsReportOf operations known status bytes (a.tree text host extensions) =
    TreeReport operations.signatures known text host extensions status bytes
IsReportOf operations known status bytes (a.run text attribute steps host extensions) =
    RunReport operations known text attribute steps host extensions status bytes
IsReportOf operations known status bytes (a.generate number size attribute host extensions) =
    GenerateReport operations known number size attribute host extensions status bytes
IsReportOf operations known status bytes (a.certificate host extensions) =
    CertificateReport operations.signatures known host extensions status bytes
IsReportOf operations known status bytes (a.recheck host certificate extension) =
    RecheckReport operations.signatures known host certificate extension status bytes
IsReportOf operations known status bytes (a.edit text edits host extensions) =
    EditReport operations.signatures known text edits host extensions status bytes
IsReportOf operations known status bytes (a.reading text host extensions) =
    ReadingReport operations.signatures known text host extensions status bytes

-- what is asked comes to read a file that meets this
abbrev pub ReadsTo : List OperationSignature → Option Files → Asked → (List ℕ → Type 0) → Type 0
ReadsTo operations known (a.value host term attribute) P = StopsAt operations known P (well_defined_host host ∷ written_term term ∷ [])
ReadsTo operations known (a.show file) P = StopsAt operations known P (specification file ∷ [])
ReadsTo operations known (a.check host) P = StopsAt operations known P (certified_host host ∷ [])
ReadsTo operations known (a.certify host extensions) P =
    (length extensions ≤ 64) × StopsAt operations known P (certified_host host ∷ map (certified_extension host) extensions)
ReadsTo operations known (a.compose host extensions) P = StopsComposed operations known host extensions P (λ r values. ⊥)
ReadsTo operations known (a.tree text host extensions) P = StopsComposed operations known host extensions P (λ r values. P text)
ReadsTo operations known (a.run text attribute steps host extensions) P = RunStops operations known text attribute host extensions P
ReadsTo operations known (a.generate number size attribute host extensions) P =
    StopsComposed operations known host extensions P (λ r values. ⊥)
ReadsTo operations known (a.certificate host extensions) P = StopsComposed operations known host extensions P (λ r values. ⊥)
ReadsTo operations known (a.recheck host certificate extension) P = StopsAt operations known P (rechecked_reads host certificate extension)
ReadsTo operations known (a.edit text edits host extensions) P = EditStops operations known text edits host extensions P
ReadsTo operations known (a.reading text host extensions) P = StopsComposed operations known host extensions P (λ r values. P text)
