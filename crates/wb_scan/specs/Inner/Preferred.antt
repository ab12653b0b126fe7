-- Pairs that are found by hashing.
use Rattle.std.specs.Prelude.{◌≡◌, ◌↔◌, ◌⊎◌, ℕ, List, [], Contains}

-- the index has the same pairs, or none
abbrev pub AreIndexed : List (ℕ × ℕ) → List (ℕ × ℕ) → Type 0
AreIndexed pairs index = (index ≡ []) ⊎ ((pair : ℕ × ℕ) → Contains index pair ↔ Contains pairs pair)
