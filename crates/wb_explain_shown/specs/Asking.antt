-- Words that ask for a tree.
use Rattle.std.specs.Prelude.{ℕ, List}
use Rattle.wb_program_words.specs.Asked.{tree}
use Rattle.wb_program_words.specs.Words.{Asks}

-- the words ask for the tree of a text
pub record AsksTree (words : List (List ℕ)) : Type 0 where
  pub text : List ℕ
  pub host : List ℕ
  pub extensions : List (List ℕ)
  pub asks : Asks words (tree text host extensions)
