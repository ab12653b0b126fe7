-- Where a line begins, and where it ends.
use Rattle.std.specs.Prelude.{◌≡◌, ◌≢◌, ◌⊎◌, ◌≤◌, ◌<◌, ℕ, List, length, slice_index}

-- the line of a place ends here
pub record IsLineEnd (text : List ℕ) (at end : ℕ) : Type 0 where
  pub to : at ≤ end
  pub within : end ≤ length text
  pub ends : (end ≡ length text) ⊎ (slice_index text end ≡ 10)
  pub none : (k : ℕ) → at ≤ k → k < end → slice_index text k ≢ 10
