-- Entries in a chain for each key.
use Rattle.std.specs.Prelude.{◌≡◌, ◌<◌, ◌≤◌, ◌+◌, ℕ, List, length, slice_index}

-- place is one more than the number of the last entry before the limit that has the key, or 0 where none does
pub record IsLast (Key : ℕ → ℕ → Type 0) (k limit place : ℕ) : Type 0 where
  pub within : place ≤ limit
  pub has : (j : ℕ) → place ≡ j + 1 → Key j k
  pub others : (j : ℕ) → place ≤ j → j < limit → ¬ Key j k

-- each chain begins at the last entry that has its key, and goes on from each entry to the last before it
pub record AreChained (Key : ℕ → ℕ → Type 0) (lasts earlier : List ℕ) : Type 0 where
  pub last : (k : ℕ) → IsLast Key k (length earlier) (slice_index lasts k)
  pub before : (j k : ℕ) → j < length earlier → Key j k → IsLast Key k j (slice_index earlier j)
