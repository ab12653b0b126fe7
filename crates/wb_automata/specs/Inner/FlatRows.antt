-- Lists that lie one after the other in one list, of which each end is known.
use Rattle.std.specs.Prelude.{◌≡◌, ◌≤◌, ℕ, zero, suc, List, [], ◌∷◌, slice_index}

-- where the list of a place begins, and the first one at `from`
abbrev pub start_at : ℕ → List ℕ → ℕ → ℕ
start_at from ends zero = from
start_at from ends (suc a) = slice_index ends a

-- the ends rise from a place to the length
abbrev pub AreEnds : ℕ → ℕ → List ℕ → Type 0
AreEnds len from [] = from ≡ len
AreEnds len from (end ∷ ends) = (from ≤ end) × AreEnds len end ends
