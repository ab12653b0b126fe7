-- A page on which a report is written.
use Rattle.std.specs.Prelude.{ℕ, List}

-- what is written, and how often a write failed
pub record PageView : Type 0 where
  pub bytes : List ℕ
  pub failures : ℕ
