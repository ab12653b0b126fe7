-- Tests on lists of kinds, by a test whether two kinds are the same.
use Rattle.std.specs.Prelude.{List, [], ◌∷◌, Bool, true, false, ◌&&◌, ◌||◌, not}

-- the second follows from the first
abbrev pub implies : Bool → Bool → Bool
implies true b = b
implies false b = true

module _ {K : Type 0} (same : K → K → Bool) where
  -- the kind is in the list
  abbrev pub is_member : K → List K → Bool
  is_member k [] = false
  is_member k (j ∷ js) = same j k || is_member k js

  -- each of the first is among the second
  abbrev pub is_subset : List K → List K → Bool
  is_subset [] ys = true
  is_subset (x ∷ xs) ys = is_member x ys && is_subset xs ys

  -- none of the first is among the second
  abbrev pub is_apart : List K → List K → Bool
  is_apart [] ys = true
  is_apart (x ∷ xs) ys = not (is_member x ys) && is_apart xs ys

  -- the list has nothing in common with any of these
  abbrev pub is_apart_from_all : List K → List (List K) → Bool
  is_apart_from_all xs [] = true
  is_apart_from_all xs (ys ∷ yss) = is_apart xs ys && is_apart_from_all xs yss

  -- no two of the lists have anything in common
  abbrev pub are_apart : List (List K) → Bool
  are_apart [] = true
  are_apart (xs ∷ xss) = is_apart_from_all xs xss && are_apart xss
