-- Which words ask what: the verb first, then its options in any order, then files and names, as the verb's row says.
use Rattle.std.specs.Prelude.{◌≡◌, ℕ, List, ◌∷◌, length, map}
use Rattle.wb_program_words.specs.Asked.{Asked}
use Rattle.wb_program_words.specs.Options.{AreOptions, Given, Splits}
use Rattle.wb_program_words.specs.OptionValues.{OptionValue}
use Rattle.wb_program_words.specs.Rows.{HaveValues, IsCount, asked_of, name_of, row_of}
use Rattle.wb_program_words.specs.declared.rows.Verb.{Verb}

-- a verb with these words after it asks this: they are options of its row and as many positional words as that says
pub record Says (verb : Verb) (rest : List (List ℕ)) (asked : Asked) : Type 0 where
  pub options : List Given
  pub positional : List (List ℕ)
  pub values : List OptionValue
  pub splits : Splits rest options positional
  pub known : AreOptions (map name_of (row_of verb).options) options
  pub given : HaveValues options (row_of verb).options values
  pub count : IsCount (row_of verb).words (length positional)
  pub is : asked ≡ asked_of verb values positional

-- the words ask this
pub record Asks (words : List (List ℕ)) (asked : Asked) : Type 0 where
  pub verb : Verb
  pub rest : List (List ℕ)
  pub line : words ≡ (row_of verb).verb ∷ rest
  pub says : Says verb rest asked
