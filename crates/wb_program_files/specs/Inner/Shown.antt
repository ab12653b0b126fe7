-- What `show` reports of what was read of a file.
use Rattle.std.specs.Prelude.{◌≡◌, ℕ, List, Some}
use Rattle.wb_certify_files.specs.HostContents.{IsBadText}
use Rattle.wb_reader.specs.Refusals.{IsAcceptedText}
use Rattle.wb_reader.specs.declared.refusal.SpecRefusal.{SpecRefusal}
use Rattle.wb_report.specs.Lines.{report_of}
use Rattle.wb_report.specs.declared.outcome.Outcome.TheVariants as o
use Rattle.wb_report.specs.declared.refusal.Refusal.{Refusal}
use Rattle.wb_certify_files.specs.Shows.{written_reason, of_spec}
use Rattle.wb_syntax.specs.Canonical.{IsCanonical}
use Rattle.wb_program_files.specs.Checks.{Ends, Check}
use Rattle.wb_program_files.specs.Contents.{ReadIs}
use Rattle.wb_program_files.specs.declared.files.Contents.{Contents}
use Rattle.wb_program_files.specs.declared.status.Status.{Status}
use Rattle.wb_program_files.specs.declared.status.Status.TheVariants.{Done, SpecRefused}

-- the line of a file shows this refusal
pub record ShowsRefusal (refusal : SpecRefusal) (file bytes : List ℕ) : Type 0 where
  pub shown : Refusal
  pub shows : of_spec (written_reason refusal) ≡ Some shown
  pub line : bytes ≡ report_of (o.Refused file shown)

-- what was read isn't a specification, and the line of the file says why
pub record RefusesRead (contents : Contents) (file bytes : List ℕ) : Type 0 where
  pub shown : Refusal
  pub cause : ReadIs contents (λ text. IsBadText text shown)
  pub line : bytes ≡ report_of (o.Refused file shown)

-- the report of what was read
abbrev pub ContentsShow : Contents → Status → List ℕ → List ℕ → Type 0
ContentsShow contents status bytes file =
    Check SpecRefused (RefusesRead contents file) (λ spec. ReadIs contents (λ text. IsAcceptedText text spec))
    (λ spec. Ends Done (IsCanonical spec)) status bytes
