-- The report of `show`: it is written whole, and known files have one, also where it is a refusal.
use Rattle.std.proofs.Common.{◌≡◌, ℕ, List, Option, Some, ap, sym, ◌∙◌}
use Rattle.wb_world.specs.Shelf.{Files}
use Rattle.wb_syntax.specs.Canonical.{IsCanonical}
use Rattle.wb_certify_files.specs.HostContents.{IsBadText}
use Rattle.wb_reader.specs.Refusals.{IsAcceptedText}
use Rattle.wb_reader.proofs.OneText.{one_text as one_read}
use Rattle.wb_reader_printer.proofs.CallerLemmas.{one_canonical}
use Rattle.wb_report.specs.Lines.{report_of}
use Rattle.wb_report.specs.declared.outcome.Outcome.TheVariants as o
use Rattle.wb_report.specs.declared.refusal.Refusal.{Refusal}
use Rattle.wb_program_files.specs.Checks.{Ends}
use Rattle.wb_program_files.specs.Files.{KnownFile}
use Rattle.wb_program_files.specs.Commands.Show.{RefusesSpec, ShowReport}
use Rattle.wb_program_files.specs.declared.status.Status.{Status}
use Rattle.wb_program_files.specs.declared.status.Status.TheVariants.{Done, SpecRefused}
use Rattle.wb_program_files.proofs.OneCheck.{AreOne, on_file, one_check, one_end}
use Rattle.wb_program_files.proofs.ShowLemmas.{none_bad, one_bad}
use Rattle.wb_program_files.proofs.WrittenWhole.{IsReported, by_check, by_end}

module _ (files : Files) (file : List ℕ) (s t : Status) (bytes others : List ℕ) where
  -- two refusals of a specification have one line
  one_refused : RefusesSpec (Some files) file bytes → RefusesSpec (Some files) file others → bytes ≡ others
  one_refused x y =
      let same : x.shown ≡ y.shown = on_file (files file) (λ c. IsBadText c x.shown) (λ c. IsBadText c y.shown)
      (x.shown ≡ y.shown) (λ c p q. one_bad c x.shown y.shown p q) x.cause y.cause in
      x.line ∙ (ap (λ (shown : Refusal). report_of (o.Refused file shown)) same ∙ sym y.line)

  -- two reports of `show` are one
  pub one_show_report : ShowReport (Some files) file s bytes → ShowReport (Some files) file t others → AreOne s t bytes others
  one_show_report =
      one_check SpecRefused s t bytes others (RefusesSpec (Some files) file)
      (λ spec. KnownFile (Some files) file (λ contents. IsAcceptedText contents spec)) (λ spec. Ends Done (IsCanonical spec))
      (λ line spec refuses read. on_file (files file) (λ c. IsAcceptedText c spec) (λ c. IsBadText c refuses.shown) ⊥
      (λ c p q. none_bad c spec refuses.shown p q) read refuses.cause)
      one_refused
      (λ x y first second. on_file (files file) (λ c. IsAcceptedText c x) (λ c. IsAcceptedText c y) (x ≡ y)
      (λ c p q. one_read c x y p.1 q.1) first second)
      (λ spec read. one_end Done s t bytes others (IsCanonical spec) (λ p q. one_canonical spec bytes others p q))

-- a report of `show`
pub show_reported : (known : Option Files) (file : List ℕ) (s : Status) (bytes : List ℕ) → ShowReport known file s bytes → IsReported s
show_reported known file s bytes = by_check SpecRefused s bytes (RefusesSpec known file)
    (λ spec. KnownFile known file (λ contents. IsAcceptedText contents spec)) (λ spec. Ends Done (IsCanonical spec)) tt
    (λ spec. by_end Done s bytes (IsCanonical spec) tt)
