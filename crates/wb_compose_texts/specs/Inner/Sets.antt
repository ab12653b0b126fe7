-- A set that is filled by flags.
use Rattle.std.specs.Prelude.{◌≡◌, ◌<◌, ◌↔◌, ℕ, Bool, List, length}
use Rattle.wb_termset.specs.Sets.{IsMember}

-- the set has the numbers below `read` whose flags are set
pub record IsFilled (flags : List Bool) (read : ℕ) (set : List Bool) : Type 0 where
  pub len : length set ≡ length flags
  pub each : (t : ℕ) → IsMember set t ↔ ((t < read) × IsMember flags t)
