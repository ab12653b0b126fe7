-- Texts, and where each is first.
use Rattle.std.specs.Prelude.{◌≡◌, ℕ, List, Some, Contains, length, slice_get}

-- the number of a different text is that of a place where it is
pub record IsPlaced (names : List (List ℕ)) (numbers : List ℕ) (texts : List (List ℕ)) (k : ℕ) (name : List ℕ) : Type 0 where
  pub number : ℕ
  pub at : slice_get numbers k ≡ Some number
  pub is : slice_get texts number ≡ Some name

-- the names are the different texts, each with the number of a place where it is
pub record IsIndex (names : List (List ℕ)) (numbers : List ℕ) (texts : List (List ℕ)) : Type 0 where
  pub count : length numbers ≡ length names
  pub placed : (k : ℕ) (name : List ℕ) → slice_get names k ≡ Some name → IsPlaced names numbers texts k name
  pub whole : (name : List ℕ) → Contains texts name → Contains names name
