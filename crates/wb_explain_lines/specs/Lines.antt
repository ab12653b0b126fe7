-- The parts of a report's line.
use Rattle.std.specs.Prelude.{◌≡◌, ℕ, List, ◌++◌, length}
use lib.Chars.{codes}
use Rattle.wb_text_parts.specs.Parts.{number_then}

-- the line refuses this file, with this code of two bytes, and this is after the code
pub record IsRefusedLine (line file code rest : List ℕ) : Type 0 where
  pub short : length code ≡ 2
  pub parts : line ≡ codes "refused " ++ (file ++ (codes " " ++ (code ++ rest)))

-- the text is these bytes, a number in decimal with this byte after it, and what is after that
abbrev pub ShowsNumber : List ℕ → ℕ → List ℕ → ℕ → List ℕ → Type 0
ShowsNumber before end text number rest = text ≡ before ++ (number_then end number ++ rest)
