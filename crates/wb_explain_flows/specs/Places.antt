-- Lines that show a place of a text.
use Rattle.std.specs.Prelude.{◌≡◌, ℕ, List}
use Rattle.wb_explain_places.specs.Place.{IsLineOf, place_lines}

-- lines that show this place of a text
pub record IsPlaceText (text : List ℕ) (at : ℕ) (lines : List ℕ) : Type 0 where
  pub file : List ℕ
  pub start : ℕ
  pub end : ℕ
  pub line : IsLineOf text at start end
  pub are : lines ≡ place_lines file text at start end
