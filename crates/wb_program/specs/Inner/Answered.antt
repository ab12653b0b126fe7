-- What the answer to words is.
use Rattle.std.specs.Prelude.{◌≡◌, ◌≢◌, List, ℕ, Option}
use Rattle.wb_world.specs.Shelf.{Files}
use Rattle.wb_operations.specs.Operations.{Operations}
use Rattle.wb_program_texts.specs.answer.Answer.{Answer}
use Rattle.wb_program_texts.specs.status.Status.TheVariants.{Usage, WriteFault}
use Rattle.wb_program.specs.Report.{InCommandSet, IsReport}
use Rattle.wb_program.specs.Written.{WritesNothing}

-- the answer to words is their report, and no status that ends a run otherwise
pub record Replies (operations : Operations) (words : List (List ℕ)) (known : Option Files) (answer : Answer) : Type 0 where
  pub report : IsReport operations words known answer.status answer.report.items
  pub usage : answer.status ≡ Usage → ¬ InCommandSet words
  pub only_usage : ¬ InCommandSet words → answer.status ≡ Usage
  pub reports : ¬ WritesNothing answer.status
  pub finishes : answer.status ≢ WriteFault
