use Rattle.std.proofs.Common.{◌≡◌, ℕ, ◌<◌, ◌≤◌, Some}
use Rattle.std.specs.Prelude.{slice_get}
use Rattle.wb_determinism_kernels.specs.declared.advance.Advance.{Advance}
use Rattle.wb_determinism_kernels.specs.Inner.Advances.{symbol_of}
use Rattle.wb_determinism_kernels.proofs.kernel_of_symbol.run_end.Given as goal

abbrev pub invariant-places : goal.invariant-places
invariant-places l = (j : ℕ) (a : Advance) → l.place ≤ j → j < l.at → slice_get l.list j ≡ Some a → symbol_of a ≡ l.symbol
