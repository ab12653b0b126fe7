-- How lists lie in one list.
use Rattle.std.specs.Prelude.{◌-◌, ℕ, List, [], ◌∷◌, take, drop}

-- the lists that lie one after the other in a list from a place on, each up to its end
abbrev pub rows_between : List ℕ → ℕ → List ℕ → List (List ℕ)
rows_between numbers from [] = []
rows_between numbers from (end ∷ ends) = take (end - from) (drop from numbers) ∷ rows_between numbers end ends
