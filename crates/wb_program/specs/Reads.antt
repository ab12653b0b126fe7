-- What a run that ends at a file has as its cause.
use Rattle.std.specs.Prelude.{ℕ, Option, List}
use Rattle.wb_world.specs.Shelf.{Files}
use Rattle.wb_operations.specs.Operations.{OperationSignature}
use Rattle.wb_program_words.specs.Asked.{Asked}
use Rattle.wb_program_words.specs.Words.{Asks}
use Rattle.wb_program.specs.Commands.{ReadsTo}
use Rattle.wb_program_texts.specs.Stops.{IsMissing, IsFaulty}

-- the words ask for a command that comes to read a file that meets this
pub record ComesTo (operations : List OperationSignature) (words : List (List ℕ)) (known : Option Files) (P : List ℕ → Type 0)
    : Type 0 where
  pub asked : Asked
  pub asks : Asks words asked
  pub comes : ReadsTo operations known asked P

-- a run that ends at a missing file: one that the words name is missing, and no check before it fails
abbrev pub AbsentCause : List OperationSignature → List (List ℕ) → Option Files → (List ℕ → ℕ) → (List ℕ → ℕ) → Type 0
AbsentCause operations words known before now = ComesTo operations words known (IsMissing known before now)

-- a run that ends at a fault of reading: reading a file that the words name failed, and no check before it fails
abbrev pub FaultCause : List OperationSignature → List (List ℕ) → Option Files → (List ℕ → ℕ) → (List ℕ → ℕ) → Type 0
FaultCause operations words known before now = ComesTo operations words known (IsFaulty before now)
