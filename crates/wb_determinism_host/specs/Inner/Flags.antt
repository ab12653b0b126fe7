-- A set of flags that is filled from the first element on.
use Rattle.std.specs.Prelude.{ℕ, zero, suc, Bool, false, List, [], ◌∷◌, length, replicate}

-- the flags of the first elements, and false for the others
abbrev pub filled : {X : Type 0} → (X → Bool) → ℕ → List X → List Bool
filled f zero xs = replicate (length xs) false
filled f (suc n) [] = []
filled f (suc n) (x ∷ xs) = f x ∷ filled f n xs
