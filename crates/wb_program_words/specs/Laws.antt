-- Words ask one thing at most, within the limits of its numbers.
use Rattle.std.specs.Prelude.{◌≡◌, ◌≤◌, ℕ, List}
use Rattle.wb_program_words.specs.Asked.{Asked}
use Rattle.wb_program_words.specs.Asked as a
use Rattle.wb_program_words.specs.Words.{Asks}

-- words ask one thing at most
abbrev pub AskOneThing : Type 0
AskOneThing = (words : List (List ℕ)) (asked other : Asked) → Asks words asked → Asks words other → asked ≡ other

-- a text that is to be made is to have few leaves
abbrev pub HasFewLeaves : Asked → Type 0
HasFewLeaves asked =
    (number size : ℕ) (attribute host : List ℕ) (extensions : List (List ℕ)) → asked ≡ a.generate number size attribute host extensions
    → size ≤ 100000

-- so does each text that words ask to be made
abbrev pub AskFewLeaves : Type 0
AskFewLeaves = (words : List (List ℕ)) (asked : Asked) → Asks words asked → HasFewLeaves asked
