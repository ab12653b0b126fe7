-- Words that ask for one command with extensions and without have one report of a text without markers.
use Rattle.std.proofs.Common.{◌≡◌, ◌≢◌, [], ℕ, List, Some, inl, inr, subst, sym}
use Rattle.wb_operations.specs.Operations.{Operations}
use Rattle.wb_world.specs.Shelf.{Files}
use Rattle.wb_program.specs.Excludes.{ExcludesExtensions, ExcludesHeaders}
use Rattle.wb_program.specs.status.Status.{Status}
use Rattle.wb_program.specs.status.Status.TheVariants.{NotCertified, SpecRefused}
use Rattle.wb_program_words.proofs.OneAsked.{one_asked}
use Rattle.wb_program_words.specs.Asked.{Asked}
use Rattle.wb_program_words.specs.Asked as a
use Rattle.wb_program_words.specs.Words.{Asks}
use Rattle.wb_program.specs.Laws.{HaveOneStatus, HaveOneText, ShowsKernel}
use Rattle.wb_program.specs.Commands.{IsReportOf}
use Rattle.wb_program.specs.Report.{IsReport}
use Rattle.wb_program_theory.specs.Certified.{HaveNoRefusal, IsRefusalStatus}
use Rattle.wb_program_theory.specs.ReadingWords.{HaveEqualReports, HaveHostRunOfWords, HaveHostTreeOfWords}
use Rattle.wb_program_theory.proofs.CertifiedLemmas.{no_refusal}
use Rattle.wb_program_theory.proofs.ReadingLemmas.{HoldsPlain, alone, holds_plain, host_run, host_tree}

-- the report of words is that of what they ask
of_asked : (operations : Operations) (files : Files) (words : List (List ℕ)) (asked : Asked) (status : Status) (bytes : List ℕ)
    → Asks words asked → IsReport operations words (Some files) status bytes → IsReportOf operations (Some files) status bytes asked
of_asked operations files words asked status bytes asks (inl usage) = absurd (usage.none_asked (record { asked = asked; asks = asks }))
of_asked operations files words asked status bytes asks (inr x) =
    subst (λ (z : Asked). IsReportOf operations (Some files) status bytes z) (one_asked words x.asked asked x.asks asks) x.report

-- a status that refuses no host and no extension is neither of these
not_specification : (status : Status) → ¬ IsRefusalStatus status → status ≢ SpecRefused
not_specification status accepted same = accepted (subst IsRefusalStatus (sym same) tt)

not_certification : (status : Status) → ¬ IsRefusalStatus status → status ≢ NotCertified
not_certification status accepted same = accepted (subst IsRefusalStatus (sym same) tt)

not_kernel : (status : Status) (bytes : List ℕ) → ¬ IsRefusalStatus status → ¬ ShowsKernel status bytes
not_kernel status bytes accepted shows = accepted (subst IsRefusalStatus (sym shows.refused) tt)

module _ (one_status : HaveOneStatus) (one_text : HaveOneText) where
  -- where each report of the other is one of the one, and refuses no host and no extension, both are one
  equal_reports : (operations : Operations) (files : Files) (asked other : Asked)
      → ((end : Status) (ends : List ℕ) → IsReportOf operations (Some files) end ends other
      → IsReportOf operations (Some files) end ends asked × ¬ IsRefusalStatus end)
      → HaveEqualReports operations files asked other
  equal_reports operations files asked other goes words others status end bytes ends asks asks_other report report_other =
      let (there, accepted) = goes end ends (of_asked operations files others other end ends asks_other report_other) in
      let also : IsReport operations words (Some files) end ends = inr (record { asked = asked; asks = asks; report = there }) in
      let same : status ≡ end = one_status operations words files status end bytes ends report also in (
        same,
        one_text operations words files end bytes ends
            (inl (not_specification end accepted, not_certification end accepted, not_kernel end bytes accepted))
            (subst (λ (z : Status). IsReport operations words (Some files) z bytes) same report) also,
      )

  module _ (excludes : ExcludesExtensions) (headers : ExcludesHeaders) where
    -- what is reported without the extensions is no refusal
    none_refused : (operations : Operations) (files : Files) (text host : List ℕ) (all : List (List ℕ))
        (x : HoldsPlain operations.signatures files text host all) → HaveNoRefusal operations files host [] x.r []
    none_refused operations files text host all x =
        no_refusal excludes headers operations files host [] x.r [] (alone excludes headers operations.signatures files text host all x)

    pub host_tree_of_words : HaveHostTreeOfWords
    host_tree_of_words operations files text host all reading =
        equal_reports operations files (a.tree text host all) (a.tree text host []) goes
      where
        goes : (end : Status) (ends : List ℕ) → IsReportOf operations (Some files) end ends (a.tree text host [])
            → IsReportOf operations (Some files) end ends (a.tree text host all) × ¬ IsRefusalStatus end
        goes end ends report =
            let none = none_refused operations files text host all (holds_plain operations.signatures files text host all reading) in (
              host_tree excludes headers operations.signatures files text host all end ends reading report,
              (none.tree text).accepted end ends report,
            )

    pub host_run_of_words : HaveHostRunOfWords
    host_run_of_words operations files text name steps host all reading of_file =
        equal_reports operations files (a.run text name steps host all) (a.run text name steps host []) goes
      where
        goes : (end : Status) (ends : List ℕ) → IsReportOf operations (Some files) end ends (a.run text name steps host [])
            → IsReportOf operations (Some files) end ends (a.run text name steps host all) × ¬ IsRefusalStatus end
        goes end ends report =
            let none = none_refused operations files text host all (holds_plain operations.signatures files text host all reading) in (
              host_run excludes headers operations files text name steps host all end ends reading of_file report,
              (none.run text name steps).accepted end ends report,
            )
