-- What words report that ask for one command with extensions in two orders.
use Rattle.std.specs.Prelude.{ℕ, List, Some}
use Rattle.wb_operations.specs.Operations.{Operations}
use Rattle.wb_compose_theory_order.specs.Orders.{IsReordering}
use Rattle.wb_world.specs.Shelf.{Files}
use Rattle.wb_program_words.specs.Asked.{Asked}
use Rattle.wb_program_words.specs.Asked as a
use Rattle.wb_program_words.specs.Words.{Asks}
use Rattle.wb_program.specs.status.Status.{Status}
use Rattle.wb_program.specs.Report.{IsReport}
use Rattle.wb_program_theory.specs.Laws.{IsAnswerStatus}
use Rattle.wb_program_theory.specs.RunLaws.{IsRunStatus}

-- where words that ask for the one have a report with such a status, words that ask for the other have it too
abbrev pub HaveSameReports : (Status → Type 0) → Operations → Files → (asked other : Asked) → Type 0
HaveSameReports IsSuch operations known asked other =
    (words others : List (List ℕ)) (status : Status) (bytes : List ℕ) → Asks words asked → Asks others other → IsSuch status
    → IsReport operations words (Some known) status bytes → IsReport operations others (Some known) status bytes

-- so it is with `tree` and its extensions in another order, where it reports the answer of a text
abbrev pub HaveOneTreeOfWords : Type 0
HaveOneTreeOfWords = (operations : Operations) (known : Files) (text host : List ℕ) (files others : List (List ℕ)) (to from : ℕ → ℕ)
    → IsReordering to from files others
    → HaveSameReports IsAnswerStatus operations known (a.tree text host files) (a.tree text host others)

-- and with `run`, where it reports what comes of a text and an attribute
abbrev pub HaveOneRunOfWords : Type 0
HaveOneRunOfWords = (operations : Operations) (known : Files) (text name : List ℕ) (steps : ℕ) (host : List ℕ)
    (files others : List (List ℕ)) (to from : ℕ → ℕ) → IsReordering to from files others
    → HaveSameReports IsRunStatus operations known (a.run text name steps host files) (a.run text name steps host others)
