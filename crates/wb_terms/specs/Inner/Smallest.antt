-- The smaller of a place so far and another.
use Rattle.std.specs.Prelude.{ℕ, Option, Some, None, Bool, true, false, min}

-- the smaller of the place so far and this one, where this one counts
abbrev pub smallest_with : Bool → ℕ → Option ℕ → Option ℕ
smallest_with false place least = least
smallest_with true place None = Some place
smallest_with true place (Some other) = Some (min other place)

-- the smaller of two places, where they are there
abbrev pub smaller_of : Option ℕ → Option ℕ → Option ℕ
smaller_of None least = least
smaller_of (Some place) least = smallest_with true place least
