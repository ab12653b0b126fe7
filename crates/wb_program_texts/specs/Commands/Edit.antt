-- What `edit --text FILE --edits FILE HOST EXT..` reports, and at which files it may stop.
use Rattle.std.specs.Prelude.{◌≡◌, ◌<◌, ◌≤◌, ◌⊎◌, ℕ, Option, List, length}
use Rattle.wb_compose_texts.specs.EditAnswers.{IsUnitedEditsAnswer}
use Rattle.wb_compose_texts.specs.declared.edits_answer.EditsAnswer.{EditsAnswer}
use Rattle.wb_compose_texts.specs.declared.edits_answer.EditsAnswer.TheVariants as a
use Rattle.wb_operations.specs.Operations.{OperationSignature}
use Rattle.wb_report.specs.Lines.{report_of}
use Rattle.wb_report.specs.declared.done.Done.TheVariants as done
use Rattle.wb_report.specs.declared.edits_reason.EditsReason.{EditsReason}
use Rattle.wb_report.specs.declared.edits_reason.EditsReason.TheVariants as u
use Rattle.wb_report.specs.declared.outcome.Outcome.TheVariants as o
use Rattle.wb_report.specs.declared.refusal.Refusal.TheVariants as refusal
use Rattle.wb_session_edits.specs.Edits.{IsList, IsListOf}
use Rattle.wb_session_edits.specs.declared.edit.Edit.{Edit}
use Rattle.wb_syntax_resolved.specs.declared.resolved.ResolvedParts.{ResolvedParts}
use Rattle.wb_text_parts.specs.Faults.{IsFirstFault}
use Rattle.wb_world.specs.Shelf.{Files}
use Rattle.wb_program_files.specs.Checks.{Report, Ends, Check}
use Rattle.wb_program_files.specs.Files.{KnownFile}
use Rattle.wb_program_texts.specs.SeveralChecks.{SeveralChecks}
use Rattle.wb_program_texts.specs.SeveralStops.{StopsComposed}
use Rattle.wb_program_files.specs.Texts.{IsTooLongText, IsText}
use Rattle.wb_program_files.specs.declared.status.Status.{Status}
use Rattle.wb_program_files.specs.declared.status.Status.TheVariants.{Done, EditRefused, TextTooLong, TooLongToPrint}

-- the line of a file that is refused as a list of edits
abbrev pub refused_line : List ℕ → EditsReason → List ℕ
refused_line file reason = report_of (o.Refused file (refusal.Edits reason))

-- the file is longer than one may be, or it isn't a list of edits and this is its first fault; and the line says so
abbrev pub IsNoList : Option Files → List ℕ → List ℕ → Type 0
IsNoList known file bytes =
    (KnownFile known file (λ contents. 1048576 < length contents) × (bytes ≡ refused_line file u.TooLong))
    ⊎ ((at : ℕ) × KnownFile known file (λ contents. (length contents ≤ 1048576) × IsFirstFault IsList contents at)
    × (bytes ≡ refused_line file (u.Syntax at)))

-- the file is the list of these edits
abbrev pub IsListFile : Option Files → List ℕ → List Edit → Type 0
IsListFile known file edits = KnownFile known file (λ contents. (length contents ≤ 1048576) × IsListOf contents edits)

-- the status and the lines of what becomes of a text by the edits of a file: all are done, and the lines are these, or are too long to
-- print; or the edit of this line is the first that isn't done
abbrev pub ShownEdits : List ℕ → EditsAnswer → Report
ShownEdits file (a.Lines lines) = Ends Done (λ bytes. bytes ≡ report_of (o.Done (done.Edited lines)))
ShownEdits file a.TooLong = Ends TooLongToPrint (λ bytes. bytes ≡ report_of o.TooLongToPrint)
ShownEdits file (a.OutOfRange number) = Ends EditRefused (λ bytes. bytes ≡ refused_line file (u.OutOfRange number))
ShownEdits file (a.TextTooLong number) = Ends EditRefused (λ bytes. bytes ≡ refused_line file (u.TextTooLong number))

-- the text has with the edits an answer in the language of the host with its extensions, and these are its status and lines
pub record TextEditsReport (operations : List OperationSignature) (host : ResolvedParts) (extensions : List ResolvedParts)
    (file text : List ℕ) (edits : List Edit) (status : Status) (bytes : List ℕ) : Type 0 where
  pub answer : EditsAnswer
  pub is : IsUnitedEditsAnswer host operations extensions text edits answer
  pub shown : ShownEdits file answer status bytes

-- the file of edits, and then what becomes of the text by them
abbrev pub EditsReport : List OperationSignature → Option Files → (edits : List ℕ) → ResolvedParts → List ResolvedParts → List ℕ → Report
EditsReport operations known file host extensions text =
    Check EditRefused (IsNoList known file) (IsListFile known file)
    (λ (edits : List Edit). TextEditsReport operations host extensions file text edits)

-- the host and the extensions, then the text, then its edits
abbrev pub EditReport : List OperationSignature → Option Files → (text edits host : List ℕ) → (extensions : List (List ℕ)) → Report
EditReport operations known file edits host extensions =
    SeveralChecks operations known host extensions (λ r values. Check TextTooLong (IsTooLongText known file) (IsText known file)
    (λ (text : List ℕ). EditsReport operations known edits r values text))

-- the run comes to read a file that meets this: the host, or an extension, or the text, or where that isn't too long, its edits
abbrev pub EditStops : List OperationSignature → Option Files → (text edits host : List ℕ) → (extensions : List (List ℕ))
    → (List ℕ → Type 0) → Type 0
EditStops operations known file edits host extensions P =
    StopsComposed operations known host extensions P
    (λ r values. P file ⊎ (((text : List ℕ) × IsText known file text) × P edits))
