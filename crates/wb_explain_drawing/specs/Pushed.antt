-- What is appended, one part after another.
use Rattle.std.specs.Prelude.{◌≡◌, ◌++◌, ◌∷◌, ℕ, List, []}
use Rattle.std.specs.List.{AllZip}

-- the texts one after another
abbrev pub all_of : List (List ℕ) → List ℕ
all_of [] = []
all_of (x ∷ xs) = x ++ all_of xs

-- after what was there comes a part that is one of this
abbrev pub PushesOne : {X : Type 0} → (X → List ℕ → Type 0) → X → List ℕ → List ℕ → Type 0
PushesOne R x old new = (part : List ℕ) × R x part × (new ≡ old ++ part)

-- after what was there comes a part for each of these, in their order
abbrev pub Pushes : {X : Type 0} → (X → List ℕ → Type 0) → List X → List ℕ → List ℕ → Type 0
Pushes R xs old new = (parts : List (List ℕ)) × AllZip R xs parts × (new ≡ old ++ all_of parts)
