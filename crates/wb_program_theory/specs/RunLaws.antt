-- What `run` reports of a text doesn't depend on the order of the extensions.
use Rattle.std.specs.Prelude.{ℕ, List, Some}
use Rattle.wb_operations.specs.Operations.{Operations}
use Rattle.wb_compose_theory_order.specs.Orders.{IsReordering}
use Rattle.wb_world.specs.Shelf.{Files}
use Rattle.wb_program.specs.status.Status.{Status}
use Rattle.wb_program.specs.status.Status.TheVariants.{Done, MoreSteps, OperationFault, TextStopped, TextTooLong, TooLongToPrint}
use Rattle.wb_program.specs.status.Status.TheVariants.{UnknownAttribute}
use Rattle.wb_program.specs.Commands.Run.{RunReport}

-- the status is that of what comes of a text and an attribute: a value, a stop, a fault, more steps, or a value that is too long to print;
-- or no such attribute may be asked, or the text is too long
abbrev pub IsRunStatus : Status → Type 0
IsRunStatus Done = Unit {0}
IsRunStatus TextStopped = Unit {0}
IsRunStatus OperationFault = Unit {0}
IsRunStatus MoreSteps = Unit {0}
IsRunStatus TooLongToPrint = Unit {0}
IsRunStatus UnknownAttribute = Unit {0}
IsRunStatus TextTooLong = Unit {0}
IsRunStatus other = ⊥

-- where what comes of a text and an attribute is reported, extensions in another order have the same report
abbrev pub HaveOneRun : Type 0
HaveOneRun = (operations : Operations) (known : Files) (text name : List ℕ) (steps : ℕ) (host : List ℕ) (files others : List (List ℕ))
    (to from : ℕ → ℕ) (status : Status) (bytes : List ℕ) → IsReordering to from files others → IsRunStatus status
    → RunReport operations (Some known) text name steps host files status bytes
    → RunReport operations (Some known) text name steps host others status bytes
