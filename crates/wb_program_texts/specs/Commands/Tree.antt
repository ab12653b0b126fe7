-- What `tree --text FILE HOST EXT..` reports.
use Rattle.std.specs.Prelude.{◌≡◌, ℕ, Option, List}
use Rattle.wb_operations.specs.Operations.{OperationSignature}
use Rattle.wb_report.specs.Lines.{report_of}
use Rattle.wb_report.specs.declared.done.Done.TheVariants as done
use Rattle.wb_report.specs.declared.outcome.Outcome.TheVariants as o
use Rattle.wb_syntax_resolved.specs.declared.resolved.ResolvedParts.{ResolvedParts}
use Rattle.wb_compose_texts.specs.Answers.{IsUnitedTextAnswer}
use Rattle.wb_compose_texts.specs.declared.text_answer.TextAnswer.{TextAnswer}
use Rattle.wb_compose_texts.specs.declared.text_answer.TextAnswer.TheVariants as t
use Rattle.wb_world.specs.Shelf.{Files}
use Rattle.wb_program_files.specs.Checks.{Report, Ends, Check}
use Rattle.wb_program_texts.specs.SeveralChecks.{SeveralChecks}
use Rattle.wb_program_files.specs.declared.status.Status.{Status}
use Rattle.wb_program_files.specs.declared.status.Status.TheVariants.{Done, TextStopped, TextTooLong, TooLongToPrint}
use Rattle.wb_program_files.specs.Texts.{IsTooLongText, IsText}

-- the status and the line of the answer of a text: it has a tree, which is printed so; it stops there; or its tree is too long to print
abbrev pub ShownText : TextAnswer → Report
ShownText (t.Tree printed) = Ends Done (λ bytes. bytes ≡ report_of (o.Done (done.Tree printed)))
ShownText (t.Stopped place shown) = Ends TextStopped (λ bytes. bytes ≡ report_of (o.Stopped place shown))
ShownText t.TooLong = Ends TooLongToPrint (λ bytes. bytes ≡ report_of o.TooLongToPrint)

-- the text has an answer in the language of the host with its extensions, and this is its status and line
pub record TextReport (operations : List OperationSignature) (host : ResolvedParts) (extensions : List ResolvedParts) (text : List ℕ)
    (status : Status) (bytes : List ℕ) : Type 0 where
  pub answer : TextAnswer
  pub is : IsUnitedTextAnswer host operations extensions text answer
  pub shown : ShownText answer status bytes

-- the host and the extensions, then the text, then its answer
abbrev pub TreeReport : List OperationSignature → Option Files → (text host : List ℕ) → (extensions : List (List ℕ)) → Report
TreeReport operations known file host extensions =
    SeveralChecks operations known host extensions (λ r values. Check TextTooLong (IsTooLongText known file) (IsText known file)
    (λ (text : List ℕ). TextReport operations r values text))
