-- Words that ask for one command with extensions in two orders have one report.
use Rattle.std.proofs.Common.{ℕ, List, Some, inl, inr, subst}
use Rattle.wb_operations.specs.Operations.{Operations}
use Rattle.wb_compose_theory_order.specs.Orders.{IsReordering}
use Rattle.wb_world.specs.Shelf.{Files}
use Rattle.wb_program_words.proofs.OneAsked.{one_asked}
use Rattle.wb_program_words.specs.Asked.{Asked}
use Rattle.wb_program_words.specs.Asked as a
use Rattle.wb_program.specs.status.Status.{Status}
use Rattle.wb_program.specs.Commands.{IsReportOf}
use Rattle.wb_program_theory.specs.Laws.{IsAnswerStatus}
use Rattle.wb_program_theory.specs.RunLaws.{IsRunStatus}
use Rattle.wb_program_theory.specs.WordLaws.{HaveOneRunOfWords, HaveOneTreeOfWords, HaveSameReports}
use Rattle.wb_program_theory.proofs.ReportLemmas.{one_order}
use Rattle.wb_program_theory.proofs.RunLemmas.{one_run_order}

-- words that ask for the other have a report of the one, where that is a report of the other
by_asked : (IsSuch : Status → Type 0) (operations : Operations) (known : Files) (asked other : Asked)
    → ((status : Status) (bytes : List ℕ) → IsSuch status → IsReportOf operations (Some known) status bytes asked
    → IsReportOf operations (Some known) status bytes other)
    → HaveSameReports IsSuch operations known asked other
by_asked IsSuch operations known asked other goes words others status bytes asks asks_other such (inl usage) =
    absurd (usage.none_asked (record { asked = asked; asks = asks }))
by_asked IsSuch operations known asked other goes words others status bytes asks asks_other such (inr x) =
    inr (record {
      asked = other;
      asks = asks_other;
      report = goes status bytes such (subst (λ (z : Asked). IsReportOf operations (Some known) status bytes z)
          (one_asked words x.asked asked x.asks asks) x.report);
    })

-- a report of `run` in the other order
run_there : (operations : Operations) (known : Files) (text name : List ℕ) (steps : ℕ) (host : List ℕ) (files others : List (List ℕ))
    (to from : ℕ → ℕ) (status : Status) (bytes : List ℕ) → IsReordering to from files others → IsRunStatus status
    → IsReportOf operations (Some known) status bytes (a.run text name steps host files)
    → IsReportOf operations (Some known) status bytes (a.run text name steps host others)
run_there operations known text name steps host files others to from status bytes re such x =
    one_run_order operations known text name steps host files others to from status bytes re such x

-- and one of `tree`
tree_there : (operations : Operations) (known : Files) (text host : List ℕ) (files others : List (List ℕ)) (to from : ℕ → ℕ)
    (status : Status) (bytes : List ℕ) → IsReordering to from files others → IsAnswerStatus status
    → IsReportOf operations (Some known) status bytes (a.tree text host files)
    → IsReportOf operations (Some known) status bytes (a.tree text host others)
tree_there operations known text host files others to from status bytes re such x =
    one_order operations.signatures known text host files others to from status bytes re such x

pub one_run_of_words : HaveOneRunOfWords
one_run_of_words operations known text name steps host files others to from re =
    by_asked IsRunStatus operations known (a.run text name steps host files) (a.run text name steps host others)
    (λ status bytes. run_there operations known text name steps host files others to from status bytes re)

pub one_tree_of_words : HaveOneTreeOfWords
one_tree_of_words operations known text host files others to from re =
    by_asked IsAnswerStatus operations known (a.tree text host files) (a.tree text host others)
    (λ status bytes. tree_there operations known text host files others to from status bytes re)
