-- What `run --text FILE --attr NAME [--steps N] HOST EXT..` reports, and at which files it may stop.
use Rattle.std.specs.Prelude.{ℕ, Option, List}
use Rattle.wb_operations.specs.Operations.{Operations, OperationSignature}
use Rattle.wb_report.specs.declared.done.Done.TheVariants as done
use Rattle.wb_syntax_resolved.specs.declared.resolved.ResolvedParts.{ResolvedParts}
use Rattle.wb_compose_texts.specs.Roots.{IsRootAttribute}
use Rattle.wb_world.specs.Shelf.{Files}
use Rattle.wb_program_files.specs.Checks.{Report, Check}
use Rattle.wb_program_texts.specs.SeveralStops.{StopsComposed}
use Rattle.wb_program_texts.specs.SeveralChecks.{SeveralChecks}
use Rattle.wb_program_files.specs.Texts.{IsText, IsTooLongText}
use Rattle.wb_program_files.specs.declared.status.Status.TheVariants.{TextTooLong}
use Rattle.wb_program_texts.specs.Values.{AttributeCheck, TextValueReport}

-- of a host with extensions: the attribute, then the text, then what comes of both
abbrev pub RunChecks : Operations → Option Files → (file name : List ℕ) → (steps : ℕ) → ResolvedParts → List ResolvedParts → Report
RunChecks operations known file name steps host extensions =
    AttributeCheck operations.signatures host extensions name
    (Check TextTooLong (IsTooLongText known file) (IsText known file)
    (λ (text : List ℕ). TextValueReport operations host extensions name steps (λ printed. done.Value name printed) text))

-- the host and the extensions, and then the rest
abbrev pub RunReport : Operations → Option Files → (file name : List ℕ) → (steps : ℕ) → (host : List ℕ) → (extensions : List (List ℕ))
    → Report
RunReport operations known file name steps host extensions =
    SeveralChecks operations.signatures known host extensions (RunChecks operations known file name steps)

-- the run comes to read a file that meets this: the host, or an extension, or the text, where the attribute may be asked
abbrev pub RunStops : List OperationSignature → Option Files → (file name host : List ℕ) → (extensions : List (List ℕ))
    → (List ℕ → Type 0) → Type 0
RunStops operations known file name host extensions P =
    StopsComposed operations known host extensions P
    (λ r values. ((attribute : ℕ) × IsRootAttribute r operations values name attribute) × P file)
