-- What `reading --text FILE HOST EXT..` reports.
use Rattle.std.specs.Prelude.{◌≡◌, ℕ, Option, List}
use Rattle.wb_operations.specs.Operations.{OperationSignature}
use Rattle.wb_report.specs.Lines.{report_of}
use Rattle.wb_report.specs.declared.done.Done.TheVariants as done
use Rattle.wb_report.specs.declared.outcome.Outcome.TheVariants as o
use Rattle.wb_syntax_resolved.specs.declared.resolved.ResolvedParts.{ResolvedParts}
use Rattle.wb_compose_texts.specs.Readings.{IsUnionReading}
use Rattle.wb_compose_texts.specs.declared.text_reading.TextReading.{TextReading}
use Rattle.wb_compose_texts.specs.declared.text_reading.TextReading.TheVariants as r
use Rattle.wb_world.specs.Shelf.{Files}
use Rattle.wb_program_files.specs.Checks.{Report, Ends, Check}
use Rattle.wb_program_texts.specs.SeveralChecks.{SeveralChecks}
use Rattle.wb_program_files.specs.declared.status.Status.{Status}
use Rattle.wb_program_files.specs.declared.status.Status.TheVariants.{Done, TextTooLong}
use Rattle.wb_program_files.specs.Texts.{IsTooLongText, IsText}

-- the status and the line of a reading: the text has no marker, or this first one at this place
abbrev pub ShownReading : TextReading → Report
ShownReading r.Host = Ends Done (λ bytes. bytes ≡ report_of (o.Done done.HostReading))
ShownReading (r.MarkerAt place marker) = Ends Done (λ bytes. bytes ≡ report_of (o.Done (done.MarkerAt marker place)))

-- the text has a reading in the language of the host with its extensions, and this is its status and line
pub record TextReadingReport (operations : List OperationSignature) (host : ResolvedParts) (extensions : List ResolvedParts) (text : List ℕ)
    (status : Status) (bytes : List ℕ) : Type 0 where
  pub reading : TextReading
  pub is : IsUnionReading host operations extensions text reading
  pub shown : ShownReading reading status bytes

-- the host and the extensions, then the text, then its reading
abbrev pub ReadingReport : List OperationSignature → Option Files → (text host : List ℕ) → (extensions : List (List ℕ)) → Report
ReadingReport operations known file host extensions =
    SeveralChecks operations known host extensions (λ r values. Check TextTooLong (IsTooLongText known file) (IsText known file)
    (λ (text : List ℕ). TextReadingReport operations r values text))
