-- What is made for a command is made for what it asks.
use Rattle.std.proofs.Common.{◌≡◌, Result, subst, sym}
use Rattle.wb_operations.specs.Operations.{Operations}
use Rattle.wb_program_words.specs.Asked.{asked_by}
use Rattle.wb_program_words.specs.declared.command.Command.{Command}
use Rattle.wb_program_texts.specs.Makes.{Answers}
use Rattle.wb_program_texts.specs.Stopped.{Outside}
use Rattle.wb_program_texts.specs.answer.Answer.{Answer}
use Rattle.wb_program_texts.specs.files.ReadFailure.{ReadFailure}
use Rattle.wb_program.specs.Commands.{IsReportOf, ReadsTo}

-- the answer to what a command asks is that to what asks the same
pub of_command : {before now : Outside} {form : Command} (operations : Operations) (result : Result Answer ReadFailure) (command : Command)
    → command ≡ form
    → Answers before now result (λ status bytes. IsReportOf operations before.files status bytes (asked_by form))
    (ReadsTo operations.signatures before.files (asked_by form))
    → Answers before now result (λ status bytes. IsReportOf operations before.files status bytes (asked_by command))
    (ReadsTo operations.signatures before.files (asked_by command))
of_command {before} {now} {form} operations result command is made =
    subst (λ (x : Command). Answers before now result (λ status bytes. IsReportOf operations before.files status bytes (asked_by x))
    (ReadsTo operations.signatures before.files (asked_by x))) (sym is) made
