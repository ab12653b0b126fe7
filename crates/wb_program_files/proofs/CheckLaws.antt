-- The report of `check`: it is written whole, and known files have one status, and one text where the host passes its checks.
use Rattle.std.proofs.Common.{◌≡◌, ℕ, List, [], Option, Some, sym, ◌∙◌}
use Rattle.wb_certify_files.specs.HostContents.{IsHostText, IsHostRefusal}
use Rattle.wb_operations.specs.Operations.{OperationSignature}
use Rattle.wb_report.specs.Lines.{report_of}
use Rattle.wb_report.specs.declared.done.Done.TheVariants as done
use Rattle.wb_report.specs.declared.outcome.Outcome.TheVariants as o
use Rattle.wb_world.specs.Shelf.{Files}
use Rattle.wb_program_files.specs.Checks.{Ends}
use Rattle.wb_program_files.specs.Commands.Check.{CheckReport}
use Rattle.wb_program_files.specs.declared.status.Status.{Status}
use Rattle.wb_program_files.specs.declared.status.Status.TheVariants.{Done}
use Rattle.wb_program_files.proofs.OneCheck.{one_end}
use Rattle.wb_program_files.proofs.OneHostChecks.{AreAlike, are_alike, one_certified_report}
use Rattle.wb_program_files.proofs.WrittenWhole.{IsReported, by_end, by_host}

-- two reports of `check`
pub one_check_report : (operations : List OperationSignature) (files : Files) (host : List ℕ) (s t : Status) (bytes others : List ℕ)
    → CheckReport operations (Some files) host s bytes → CheckReport operations (Some files) host t others → AreAlike s t bytes others
one_check_report operations files host s t bytes others =
    one_certified_report operations files host s t bytes others
    (λ r. Ends Done (λ line. line ≡ report_of (o.Done (done.Certified r.host []))))
    (λ r is x y. are_alike s t bytes others
    (one_end Done s t bytes others (λ line. line ≡ report_of (o.Done (done.Certified r.host []))) (λ p q. p ∙ sym q) x y))

-- a report of `check`
pub check_reported : (operations : List OperationSignature) (known : Option Files) (host : List ℕ) (s : Status) (bytes : List ℕ)
    → CheckReport operations known host s bytes → IsReported s
check_reported operations known host s bytes =
    by_host (IsHostText operations) (IsHostRefusal operations) known host
    (λ r. Ends Done (λ line. line ≡ report_of (o.Done (done.Certified r.host [])))) s bytes
    (λ r. by_end Done s bytes (λ line. line ≡ report_of (o.Done (done.Certified r.host []))) tt)
