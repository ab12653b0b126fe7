-- Where a line begins.
use Rattle.std.specs.Prelude.{◌≡◌, ◌≢◌, ◌⊎◌, ◌≤◌, ◌<◌, ◌-◌, ℕ, List, slice_index}

-- the line of a place begins here
pub record IsLineStart (text : List ℕ) (at start : ℕ) : Type 0 where
  pub from : start ≤ at
  pub begins : (start ≡ 0) ⊎ (slice_index text (start - 1) ≡ 10)
  pub none : (k : ℕ) → start ≤ k → k < at → slice_index text k ≢ 10
