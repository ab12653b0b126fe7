-- What `compose HOST EXT..` reports.
use Rattle.std.specs.Prelude.{◌≡◌, ℕ, Option, List, length}
use Rattle.wb_operations.specs.Operations.{OperationSignature}
use Rattle.wb_report.specs.Lines.{report_of}
use Rattle.wb_report.specs.declared.done.Done.TheVariants as done
use Rattle.wb_report.specs.declared.outcome.Outcome.TheVariants as o
use Rattle.wb_syntax_resolved.specs.declared.resolved.ResolvedParts.{ResolvedParts}
use Rattle.wb_program_texts.specs.Withdrawn.{AreWithdrawnNames}
use Rattle.wb_world.specs.Shelf.{Files}
use Rattle.wb_program_texts.specs.Checks.{Report, Ends}
use Rattle.wb_program_texts.specs.SeveralChecks.{SeveralChecks}
use Rattle.wb_program_texts.specs.status.Status.TheVariants.{Done}

-- the host with its extensions has these markers without a bare form, and the lines say so
pub record ComposedLines (operations : List OperationSignature) (host : ResolvedParts) (extensions : List ResolvedParts) (bytes : List ℕ)
    : Type 0 where
  pub names : List (List ℕ)
  pub withdrawn : AreWithdrawnNames host operations extensions names
  pub lines : bytes ≡ report_of (o.Done (done.Composed host.host (length extensions) names))

-- the extensions, and then what is composed
abbrev pub ComposeReport : List OperationSignature → Option Files → (host : List ℕ) → (extensions : List (List ℕ)) → Report
ComposeReport operations known host extensions =
    SeveralChecks operations known host extensions (λ r values. Ends Done (ComposedLines operations r values))
