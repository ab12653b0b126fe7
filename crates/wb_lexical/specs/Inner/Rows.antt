-- Relations between terminals as rows of sets: row t has the terminals to which t is related.
use Rattle.std.specs.Prelude.{◌≡◌, ◌<◌, ◌⊎◌, ◌↔◌, ℕ, Bool, List, [], Some, All, length, slice_get, slice_index_or}
use Rattle.wb_automata.specs.Automata.{IsConsidered}
use Rattle.wb_termset.specs.Sets.{IsMember}

-- each row has room for so many terminals
abbrev pub HaveWidth : ℕ → List (List Bool) → Type 0
HaveWidth width rows = All (λ row. length row ≡ width) rows

-- the terminal u is in row t
abbrev pub IsInRow : List (List Bool) → ℕ → ℕ → Type 0
IsInRow rows t u = IsMember (slice_index_or rows t []) u

-- besides what they had, the rows took the pairs that the condition holds of, as far as there is room, and nothing else changed
pub record Take (New : ℕ → ℕ → Type 0) (old new : List (List Bool)) : Type 0 where
  pub len : length new ≡ length old
  pub widths : HaveWidth (length old) old → HaveWidth (length old) new
  pub each : (t u : ℕ) → t < length old → u < length old → IsInRow new t u ↔ (IsInRow old t u ⊎ New t u)

-- there are so many rows, each with room for so many terminals, and of those they have the pairs that the relation holds of
pub record HoldPairs (count : ℕ) (Pair : ℕ → ℕ → Type 0) (rows : List (List Bool)) : Type 0 where
  pub len : length rows ≡ count
  pub widths : HaveWidth count rows
  pub each : (t u : ℕ) → t < count → u < count → IsInRow rows t u ↔ Pair t u

-- both terminals are in one of the first sets
abbrev pub AreTogetherBelow : List (List Bool) → ℕ → ℕ → ℕ → Type 0
AreTogetherBelow sets count t u = (k : ℕ) × (k < count) × IsConsidered sets k t × IsConsidered sets k u

-- both terminals are in one set
abbrev pub AreTogether : List (List Bool) → ℕ → ℕ → Type 0
AreTogether sets t u = (k : ℕ) × IsConsidered sets k t × IsConsidered sets k u

-- one of the first preferences names the two, in one order or the other
abbrev pub AreOrderedBelow : List (ℕ × ℕ) → ℕ → ℕ → ℕ → Type 0
AreOrderedBelow preferences count t u =
    (k : ℕ) × (k < count) × ((slice_get preferences k ≡ Some (t, u)) ⊎ (slice_get preferences k ≡ Some (u, t)))

-- the two are these, in one order or the other
abbrev pub AreThese : ℕ → ℕ → ℕ → ℕ → Type 0
AreThese a b t u = ((t ≡ a) × (u ≡ b)) ⊎ ((t ≡ b) × (u ≡ a))
