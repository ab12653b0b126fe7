-- Texts after a heading, one for each of a list, and what comes after them.
use Rattle.std.specs.Prelude.{◌≡◌, ◌++◌, ◌∷◌, ℕ, List, [], take}
use Rattle.std.specs.List.{AllZip}

-- the texts one after another
abbrev pub all_of : List (List ℕ) → List ℕ
all_of [] = []
all_of (x ∷ xs) = x ++ all_of xs

-- after what was there comes a text of this sort
abbrev pub HasText : (List ℕ → Type 0) → List ℕ → List ℕ → Type 0
HasText R old new = (text : List ℕ) × R text × (new ≡ old ++ text)

-- after what was there comes a text for each of a list, in its order
abbrev pub HasTexts : {X : Type 0} → (X → List ℕ → Type 0) → List X → List ℕ → List ℕ → Type 0
HasTexts {X} R xs old new = (texts : List (List ℕ)) × AllZip R xs texts × (new ≡ old ++ all_of texts)

-- after what was there come a heading, a text for each of the first 40 of a list, in its order, and what comes after them
pub record Lists {X : Type 0} (R : X → List ℕ → Type 0) (xs : List X) (old new : List ℕ) : Type 0 where
  pub heading : List ℕ
  pub texts : List (List ℕ)
  pub are : AllZip R (take 40 xs) texts
  pub rest : List ℕ
  pub lines : new ≡ old ++ heading ++ all_of texts ++ rest
