-- Words and known files have one status, and one text where a refusal has one.
use Rattle.std.proofs.Common.{◌≡◌, ◌≢◌, ◌⊎◌, inl, inr, ℕ, List, Option, Some, sym, ◌∙◌, subst}
use Rattle.wb_world.specs.Shelf.{Files}
use Rattle.wb_operations.specs.Operations.{Operations}
use Rattle.wb_program_words.proofs.OneAsked.{one_asked}
use Rattle.wb_program_words.specs.Asked.{Asked}
use Rattle.wb_program_words.specs.Words.{Asks}
use Rattle.wb_program.specs.Laws.{HasOneRefusal, HaveOneStatus, HaveOneText, EndAsReported, ShowsKernel}
use Rattle.wb_program.specs.Commands.{IsReportOf}
use Rattle.wb_program.specs.Report.{InCommandSet, IsAnswered, IsReport}
use Rattle.wb_program_texts.specs.Below.{LawsBelow}
use Rattle.wb_program_texts.specs.status.Status.{Status}
use Rattle.wb_program_texts.specs.status.Status.TheVariants.{SpecRefused, NotCertified}
use Rattle.wb_program.proofs.AllReports.{has_laws}
use Rattle.wb_program.proofs.ReportLaws.{AreOneOf}

-- words with a report are in the command set
in_set : (operations : Operations) (known : Option Files) (s : Status) (bytes : List ℕ) (words : List (List ℕ))
    → IsAnswered operations words known s bytes → InCommandSet words
in_set operations known s bytes words x =
    record { asked = x.asked; asks = x.asks }

-- one text is wanted of the words: it is no refusal, or one that has no choice
abbrev WantsOneText : List (List ℕ) → Status → List ℕ → Type 0
WantsOneText words s bytes =
    ((s ≢ SpecRefused) × (s ≢ NotCertified) × ¬ ShowsKernel s bytes) ⊎ ((asked : Asked) → Asks words asked → HasOneRefusal asked)

-- two reports of words and files are one
one_report : LawsBelow → (operations : Operations) (words : List (List ℕ)) (files : Files) (s t : Status) (bytes others : List ℕ)
    → IsReport operations words (Some files) s bytes →
    IsReport operations words (Some files) t others → (s ≡ t) × (WantsOneText words s bytes → bytes ≡ others)
one_report below operations words files s t bytes others (inl x) (inl y) = (x.usage ∙ sym y.usage, λ wants. x.line ∙ sym y.line)
one_report below operations words files s t bytes others (inl x) (inr y) =
    absurd (x.none_asked (in_set operations (Some files) t others words y))
one_report below operations words files s t bytes others (inr x) (inl y) =
    absurd (y.none_asked (in_set operations (Some files) s bytes words x))
one_report below operations words files s t bytes others (inr x) (inr y) =
    let one : AreOneOf x.asked s t bytes others = (has_laws operations x.asked).one below files s t bytes others x.report
    (subst (λ (z : Asked). IsReportOf operations (Some files) t others z) (one_asked words y.asked x.asked y.asks x.asks) y.report) in
    (one.0, λ wants. one.1 (elim wants [ inl differ ↦ inl differ | inr once_refused ↦ inr (once_refused x.asked x.asks) ]))

-- words and known files have one status
pub one_status : LawsBelow → HaveOneStatus
one_status below operations words files s t bytes others first second =
    (one_report below operations words files s t bytes others first second).0

-- words and known files have one text with a status
pub one_text : LawsBelow → HaveOneText
one_text below operations words files s bytes others chooses first second =
    (one_report below operations words files s s bytes others first second).1 chooses

-- a run ends with the status of the one report, if it has one
pub end_as_reported : LawsBelow → EndAsReported
end_as_reported below operations words files status end bytes before now report (inl nothing) = inr (inr nothing.0)
end_as_reported below operations words files status end bytes before now report (inr (inl fault)) = inr (inl fault.0)
end_as_reported below operations words files status end bytes before now report (inr (inr whole)) =
    inl (one_status below operations words files end status whole.bytes bytes whole.report report)
