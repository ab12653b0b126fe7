-- Where a text first goes wrong that is to be one of a set.
use Rattle.std.specs.Prelude.{◌≡◌, ℕ, List, [], ◌∷◌, ◌++◌, length}

-- some text of the set begins with these bytes
abbrev pub CanGoOn : (List ℕ → Type 0) → List ℕ → Type 0
CanGoOn Set front = (more : List ℕ) × Set (front ++ more)

-- after the bytes, which begin some text of the set, comes a byte with which none goes on, or the end where they are none
abbrev pub IsStuck : (List ℕ → Type 0) → List ℕ → List ℕ → Type 0
IsStuck Set front [] = ¬ Set front
IsStuck Set front (b ∷ after) = ¬ CanGoOn Set (front ++ b ∷ [])

-- the text is cut at its first fault
pub record IsFaultAt (Set : List ℕ → Type 0) (text rest : List ℕ) : Type 0 where
  pub front : List ℕ
  pub split : text ≡ front ++ rest
  pub before : CanGoOn Set front
  pub stuck : IsStuck Set front rest

-- at this place of the text is the first byte that can't follow those before it in any text of the set, or the text ends there too early
pub record IsFirstFault (Set : List ℕ → Type 0) (text : List ℕ) (at : ℕ) : Type 0 where
  pub front : List ℕ
  pub rest : List ℕ
  pub split : text ≡ front ++ rest
  pub place : at ≡ length front
  pub before : CanGoOn Set front
  pub stuck : IsStuck Set front rest
