-- What `check HOST` reports, and the checks of a host with which other commands begin.
use Rattle.std.specs.Prelude.{◌≡◌, ℕ, Option, List, []}
use Rattle.wb_operations.specs.Operations.{OperationSignature}
use Rattle.wb_report.specs.Lines.{report_of}
use Rattle.wb_report.specs.declared.done.Done.TheVariants as done
use Rattle.wb_report.specs.declared.outcome.Outcome.TheVariants as o
use Rattle.wb_world.specs.Shelf.{Files}
use Rattle.wb_program_files.specs.Checks.{Report, Ends}
use Rattle.wb_program_files.specs.declared.status.Status.TheVariants.{Done}
use Rattle.wb_program_files.specs.HostChecks.{CertifiedChecks}

-- the host, and that it is certified
abbrev pub CheckReport : List OperationSignature → Option Files → List ℕ → Report
CheckReport operations known file =
    CertifiedChecks operations known file (λ r. Ends Done (λ bytes. bytes ≡ report_of (o.Done (done.Certified r.host []))))
