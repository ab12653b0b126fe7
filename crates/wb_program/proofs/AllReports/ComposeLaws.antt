-- The report of `compose`: it is written whole, and known files have one status, and one text where nothing is refused.
use Rattle.std.proofs.Common.{◌≡◌, ℕ, List, Option, Some, length, ap, sym, ◌∙◌}
use Rattle.wb_operations.specs.Operations.{OperationSignature, Operations}
use Rattle.wb_report.specs.Lines.{report_of}
use Rattle.wb_report.specs.declared.done.Done.TheVariants as done
use Rattle.wb_report.specs.declared.outcome.Outcome.TheVariants as o
use Rattle.wb_syntax_resolved.specs.declared.resolved.ResolvedParts.{ResolvedParts}
use Rattle.wb_world.specs.Shelf.{Files}
use Rattle.wb_program_words.specs.Asked as a
use Rattle.wb_program_texts.specs.Checks.{Ends}
use Rattle.wb_program.specs.Commands.Compose.{ComposeReport, ComposedLines}
use Rattle.wb_program_texts.specs.Below.{LawsBelow}
use Rattle.wb_program_texts.specs.status.Status.{Status}
use Rattle.wb_program_texts.specs.status.Status.TheVariants.{Done}
use Rattle.wb_program_texts.proofs.OneCheck.{AreOne}
use Rattle.wb_program_texts.proofs.OneHostChecks.{AreAlike, are_alike}
use Rattle.wb_program_texts.proofs.OneSeveralReport.{one_several_report}
use Rattle.wb_program.proofs.ReportLaws.{HasLaws, when_alike}
use Rattle.wb_program_texts.proofs.WrittenWhole.{IsReported, by_end}
use Rattle.wb_program_texts.proofs.SeveralWritten.{several_reported}

module _ (below : LawsBelow) (operations : List OperationSignature) (r : ResolvedParts) (values : List ResolvedParts)
    (s t : Status) (bytes others : List ℕ) where
  -- what is composed has one list of lines
  one_composed : Ends Done (ComposedLines operations r values) s bytes → Ends Done (ComposedLines operations r values) t others
      → AreOne s t bytes others
  one_composed (ends, x) (ends', y) = (
    ends ∙ sym ends',
    x.lines
        ∙ (ap (λ (names : List (List ℕ)). report_of (o.Done (done.Composed r.host (length values) names)))
        (below.withdrawn r operations values x.names y.names x.withdrawn y.withdrawn) ∙ sym y.lines),
  )

-- two reports of `compose`
one_compose_report : LawsBelow → (operations : List OperationSignature) (files : Files) (host : List ℕ) (all : List (List ℕ))
    (s t : Status) (bytes others : List ℕ) → ComposeReport operations (Some files) host all s bytes
    → ComposeReport operations (Some files) host all t others → AreAlike s t bytes others
one_compose_report below operations files host all s t bytes others =
    one_several_report below.extensions below.headers operations files host all
    (λ r values. Ends Done (ComposedLines operations r values)) s t bytes others
    (λ r values names p q. are_alike s t bytes others (one_composed below operations r values s t bytes others p q))

-- a report of `compose`
compose_reported : (operations : List OperationSignature) (known : Option Files) (host : List ℕ) (all : List (List ℕ)) (s : Status)
    (bytes : List ℕ) → ComposeReport operations known host all s bytes → IsReported s
compose_reported operations known host all s bytes =
    several_reported operations known all s bytes host (λ r values. Ends Done (ComposedLines operations r values))
    (λ r values. by_end Done s bytes (ComposedLines operations r values) tt)

-- so it has the laws of a report
pub compose_laws : (operations : Operations) (host : List ℕ) (extensions : List (List ℕ)) → HasLaws operations (a.compose host extensions)
compose_laws operations host extensions = record {
  whole = λ known. compose_reported operations.signatures known host extensions;
  one = λ below files s t bytes others x y. when_alike (a.compose host extensions) s t bytes others tt
      (one_compose_report below operations.signatures files host extensions s t bytes others x y);
}
