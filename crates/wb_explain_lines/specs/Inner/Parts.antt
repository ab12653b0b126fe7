-- Lines that were refused.
use Rattle.std.specs.Prelude.{◌≡◌, ℕ, List, ◌++◌, length}
use lib.Chars.{codes}

-- the text is the name of a file, a code of two bytes after a space, and what is after that
pub record AreRefusedParts (text file code rest : List ℕ) : Type 0 where
  pub short : length code ≡ 2
  pub parts : text ≡ file ++ (codes " " ++ (code ++ rest))
