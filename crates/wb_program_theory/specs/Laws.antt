-- What `tree` reports of a text doesn't depend on the order of the extensions.
use Rattle.std.specs.Prelude.{ℕ, List, Some}
use Rattle.wb_operations.specs.Operations.{OperationSignature}
use Rattle.wb_compose_theory_order.specs.Orders.{IsReordering}
use Rattle.wb_world.specs.Shelf.{Files}
use Rattle.wb_program.specs.status.Status.{Status}
use Rattle.wb_program.specs.status.Status.TheVariants.{Done, TextStopped, TooLongToPrint}
use Rattle.wb_program.specs.Commands.Tree.{TreeReport}

-- the status is that of a text's answer: a tree, a stop, or a tree that is too long to print
abbrev pub IsAnswerStatus : Status → Type 0
IsAnswerStatus Done = Unit {0}
IsAnswerStatus TextStopped = Unit {0}
IsAnswerStatus TooLongToPrint = Unit {0}
IsAnswerStatus other = ⊥

-- where a text has an answer that is reported, extensions in another order have the same report
abbrev pub HaveOneOrder : Type 0
HaveOneOrder = (operations : List OperationSignature) (known : Files) (text host : List ℕ) (files others : List (List ℕ))
    (to from : ℕ → ℕ) (status : Status) (bytes : List ℕ) → IsReordering to from files others → IsAnswerStatus status
    → TreeReport operations (Some known) text host files status bytes
    → TreeReport operations (Some known) text host others status bytes
