-- Codes of moves: 0 leads nowhere, and a state's code is one more than its number.
use Rattle.std.specs.Prelude.{ℕ, zero, suc, Option, Some, None}

abbrev pub move_at : ℕ → Option ℕ
move_at zero = None
move_at (suc state) = Some state
