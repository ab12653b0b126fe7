-- Which status and which bytes the words and the files give, where operations mean what they mean.
use Rattle.std.specs.Prelude.{◌≡◌, ◌⊎◌, ℕ, Option, List}
use Rattle.wb_world.specs.Shelf.{Files}
use Rattle.wb_operations.specs.Operations.{Operations}
use Rattle.wb_program_words.specs.Asked.{Asked}
use Rattle.wb_program_words.specs.Usage.{usage_line}
use Rattle.wb_program_words.specs.Words.{Asks}
use Rattle.wb_program.specs.Commands.{IsReportOf}
use Rattle.wb_program_texts.specs.status.Status.{Status}
use Rattle.wb_program_texts.specs.status.Status.TheVariants.{Usage}

-- the words ask for a command
pub record InCommandSet (words : List (List ℕ)) : Type 0 where
  pub asked : Asked
  pub asks : Asks words asked

-- the words ask for no command, and the bytes are the usage line
pub record IsUsage (words : List (List ℕ)) (status : Status) (bytes : List ℕ) : Type 0 where
  pub usage : status ≡ Usage
  pub none_asked : ¬ InCommandSet words
  pub line : bytes ≡ usage_line

-- the words ask for a command, and this is its report
pub record IsAnswered (operations : Operations) (words : List (List ℕ)) (known : Option Files) (status : Status) (bytes : List ℕ)
    : Type 0 where
  pub asked : Asked
  pub asks : Asks words asked
  pub report : IsReportOf operations known status bytes asked

-- the words and the files give this status and these bytes
abbrev pub IsReport : Operations → List (List ℕ) → Option Files → Status → List ℕ → Type 0
IsReport operations words known status bytes = IsUsage words status bytes ⊎ IsAnswered operations words known status bytes
