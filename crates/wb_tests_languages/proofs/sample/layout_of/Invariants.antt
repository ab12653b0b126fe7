use Rattle.std.proofs.Common.{◌≡◌, ◌+◌, ℕ, length, Some}
use Rattle.std.specs.Prelude.{slice_get}
use Rattle.wb_tests_languages.proofs.sample.layout_of.Given as goal

abbrev pub invariant-numbers : goal.invariant-numbers
invariant-numbers l = record {
  count : l.terminals + length l.layout.items ≡ l.number;
  numbers : (k t : ℕ) → slice_get l.layout.items k ≡ Some t → t ≡ l.terminals + k;
}
