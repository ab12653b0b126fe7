-- Pairs of the starts of two expressions, and of their ends.
use Rattle.std.specs.Prelude.{◌≡◌, ◌+◌, ◌*◌, ◌<◌, ◌↔◌, ℕ, Bool, true, List, Some, Contains, length, slice_get, slice_index}
use Rattle.wb_automata_positions.specs.declared.places.Places.{Places}

-- each start is a place
abbrev pub AreStartsBelow : Places → Type 0
AreStartsBelow m = (k : ℕ) → k < length m.starts.items → slice_index m.starts.items k < length m.places.items

-- the pair of the starts of two expressions
abbrev pub seed_of : List ℕ → ℕ → ℕ × ℕ → ℕ
seed_of starts count pair = slice_index starts pair.0 * count + slice_index starts pair.1

-- the pair of the ends of two expressions
abbrev pub end_pair : Places → ℕ × ℕ → ℕ
end_pair m pair = (m.first_end + pair.0) * length m.places.items + (m.first_end + pair.1)

-- there is a flag for each pair, which is set exactly where the ends of its two expressions were met
pub record AreEndFlags (m : Places) (met : List ℕ) (pairs : List (ℕ × ℕ)) (flags : List Bool) : Type 0 where
  pub len : length flags ≡ length pairs
  pub each : (place : ℕ) (pair : ℕ × ℕ) (flag : Bool) → slice_get pairs place ≡ Some pair → slice_get flags place ≡ Some flag
      → (flag ≡ true) ↔ Contains met (end_pair m pair)
