-- What a write to a sink may answer.
use Rattle.std.specs.Prelude.{ℕ, ◌≤◌, ◌<◌}
use Rattle.wb_world.specs.declared.sink.Put.{Put}
use Rattle.wb_world.specs.declared.sink.Put.TheVariants.{Took, Failed}

-- how many bytes were taken
abbrev pub taken : Put → ℕ
taken (Took n) = n
taken Failed = 0

-- at least one byte was taken, and no more than there are, unless the write failed
abbrev pub TakesSome : Put → ℕ → Type 0
TakesSome (Took n) most = (0 < n) × (n ≤ most)
TakesSome Failed most = Unit {0}
