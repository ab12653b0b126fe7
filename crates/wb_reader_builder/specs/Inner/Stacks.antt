-- The last values of a stack, and what goes to the end of its last list.
use Rattle.std.specs.Prelude.{◌≡◌, ℕ, List, [], ◌∷◌, ◌++◌, length, Option, Some, None}
use Rattle.wb_reader_builder.specs.Builder.{on_top}

-- there are fewer than two values
abbrev pub HasFew : {X : Type 0} → List X → Type 0
HasFew [] = Unit {0}
HasFew (last ∷ rest) = rest ≡ []

-- the value goes to the end of the last list, where there is one
abbrev pub with_last : {X : Type 0} → X → List (List X) → List (List X)
with_last value lists = on_top lists lists (λ list rest. (list ++ value ∷ []) ∷ rest)

-- the place of what goes there
abbrev pub last_place : {X : Type 0} → List (List X) → Option ℕ
last_place lists = on_top lists None (λ list rest. Some (length list))
