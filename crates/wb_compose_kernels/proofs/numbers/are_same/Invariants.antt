use Rattle.std.proofs.Common.{◌≡◌, ◌<◌, ℕ}
use Rattle.std.specs.Prelude.{slice_get}
use Rattle.wb_compose_kernels.proofs.numbers.are_same.Given as goal

abbrev pub invariant-items : goal.invariant-items
invariant-items l = (j : ℕ) → j < l.place → slice_get l.one j ≡ slice_get l.other j
