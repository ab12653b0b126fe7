-- Places that wait, and their marks.
use Rattle.std.specs.Prelude.{◌≡◌, ◌⊎◌, ℕ, Bool, true, false, List, [], ◌∷◌, ◌++◌, Contains, slice_index_or}
use Rattle.wb_grammar_theory.specs.declared.item.Item.{Item}
use Rattle.wb_lookahead.specs.declared.worklist.Place.{Place}

-- the place of the kernel has a mark
abbrev pub IsMarked : List (List Bool) → ℕ → ℕ → Type 0
IsMarked marks s at = slice_index_or (slice_index_or marks s []) at false ≡ true

-- where a place has a mark, some item waits there
abbrev pub AreMarked : List Place → List (List Bool) → Type 0
AreMarked waiting marks = (s at : ℕ) → IsMarked marks s at → (item : Item) × Contains waiting (record { state = s; item = item; at = at })

-- the place was put before the others or after them, or some item waits at its numbers and nothing changed
pub data Adds (old : List Place) (place : Place) : List Place → Type 0 where
  in_front : {new : List Place} → new ≡ place ∷ old → Adds old place new
  at_end : {new : List Place} → new ≡ old ++ place ∷ [] → Adds old place new
  stays : (item : Item) {new : List Place} → new ≡ old → Contains old (record { state = place.state; item = item; at = place.at }) →
      Adds old place new

-- at other places no mark is new, and at this one there is none but this
abbrev pub MarksChange : List (List Bool) → ℕ → ℕ → Bool → List (List Bool) → Type 0
MarksChange old s at mark new =
    (k j : ℕ) → IsMarked new k j → (IsMarked old k j × (((k ≡ s) × (j ≡ at)) → ⊥)) ⊎ ((k ≡ s) × (j ≡ at) × (mark ≡ true))
