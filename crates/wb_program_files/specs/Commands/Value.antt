-- What `value HOST TERM ATTR` reports.
use Rattle.std.specs.Prelude.{◌≡◌, ℕ, Option, List}
use Rattle.wb_operations.specs.Operations.{Operations}
use Rattle.wb_report.specs.Lines.{report_of}
use Rattle.wb_report.specs.declared.done.Done.TheVariants as done
use Rattle.wb_report.specs.declared.outcome.Outcome.TheVariants as o
use Rattle.wb_report.specs.declared.refusal.Refusal.TheVariants as refusal
use Rattle.wb_syntax_resolved.specs.declared.attribution.AttributionParts.{AttributionParts}
use Rattle.wb_eval_root.specs.Answers.{IsRootAnswer}
use Rattle.wb_eval_root.specs.declared.answer.RootAnswer.{RootAnswer}
use Rattle.wb_eval_root.specs.declared.answer.RootAnswer.TheVariants as answered
use Rattle.wb_world.specs.Shelf.{Files}
use Rattle.wb_program_files.specs.Checks.{Report, Ends, Check}
use Rattle.wb_program_files.specs.Texts.{IsText, IsTooLongText}
use Rattle.wb_program_files.specs.declared.status.Status.{Status}
use Rattle.wb_program_files.specs.declared.status.Status.TheVariants.{Done, OperationFault, MoreSteps, TextTooLong, TooLongToPrint}
use Rattle.wb_program_files.specs.declared.status.Status.TheVariants.{UnknownAttribute, TermRefused}
use Rattle.wb_program_files.specs.HostChecks.{WellDefinedChecks}

-- the status and the line of an answer: the term of the file is refused, the attribute can't be asked for, its evaluation fails or needs
-- more steps, or its value is too long to print, or is printed
abbrev pub RootReport : (file attribute : List ℕ) → RootAnswer → Report
RootReport file attribute (answered.Refused reason) = Ends TermRefused (λ bytes. bytes ≡ report_of (o.Refused file (refusal.Term reason)))
RootReport file attribute answered.UnknownAttribute = Ends UnknownAttribute (λ bytes. bytes ≡ report_of (o.UnknownAttribute attribute))
RootReport file attribute (answered.Fault operation code) = Ends OperationFault (λ bytes. bytes ≡ report_of (o.Fault operation code))
RootReport file attribute answered.MoreSteps = Ends MoreSteps (λ bytes. bytes ≡ report_of (o.MoreSteps 1000000))
RootReport file attribute answered.TooLong = Ends TooLongToPrint (λ bytes. bytes ≡ report_of o.TooLongToPrint)
RootReport file attribute (answered.Value printed) = Ends Done (λ bytes. bytes ≡ report_of (o.Done (done.Value attribute printed)))

-- the text has an answer as a term of a host of these attributes, within 1,000,000 steps, and this is its status and line
pub record TermReport (operations : Operations) (a : AttributionParts) (file attribute text : List ℕ) (status : Status) (bytes : List ℕ)
    : Type 0 where
  pub answer : RootAnswer
  pub is : IsRootAnswer a operations text attribute 1000000 answer
  pub shown : RootReport file attribute answer status bytes

-- the host, then the term, then its answer
abbrev pub ValueReport : Operations → Option Files → (host file attribute : List ℕ) → Report
ValueReport operations known host file attribute =
    WellDefinedChecks operations.signatures known host (λ r. Check TextTooLong (IsTooLongText known file) (IsText known file)
    (λ (text : List ℕ). TermReport operations r.attributes file attribute text))
