-- What `show SPEC` reports.
use Rattle.std.specs.Prelude.{◌≡◌, ℕ, Option, List}
use Rattle.wb_certify_files.specs.HostContents.{IsBadText}
use Rattle.wb_reader.specs.Refusals.{IsAcceptedText}
use Rattle.wb_report.specs.Lines.{report_of}
use Rattle.wb_report.specs.declared.outcome.Outcome.TheVariants as o
use Rattle.wb_report.specs.declared.refusal.Refusal.{Refusal}
use Rattle.wb_syntax.specs.Canonical.{IsCanonical}
use Rattle.wb_world.specs.Shelf.{Files}
use Rattle.wb_program_files.specs.Checks.{Report, Ends, Check}
use Rattle.wb_program_files.specs.Files.{KnownFile}
use Rattle.wb_program_files.specs.declared.status.Status.TheVariants.{Done, SpecRefused}

-- the file isn't taken as a specification, and the line says why
pub record RefusesSpec (known : Option Files) (file bytes : List ℕ) : Type 0 where
  pub shown : Refusal
  pub cause : KnownFile known file (λ contents. IsBadText contents shown)
  pub line : bytes ≡ report_of (o.Refused file shown)

-- the file, then its canonical text
abbrev pub ShowReport : Option Files → List ℕ → Report
ShowReport known file =
    Check SpecRefused (RefusesSpec known file) (λ spec. KnownFile known file (λ contents. IsAcceptedText contents spec))
    (λ spec. Ends Done (IsCanonical spec))
