use Rattle.std.proofs.Common.{◌≡◌, ℕ, length, Some}
use Rattle.std.specs.Prelude.{slice_get}
use Rattle.wb_digraph.proofs.spread.numbers_in.Given as goal

abbrev pub invariant-vertices : goal.invariant-vertices
invariant-vertices l = record {
  len : length l.numbers.items ≡ l.vertex;
  each : (u n : ℕ) → slice_get l.numbers.items u ≡ Some n → (k : ℕ) × (slice_get l.graph.components.now.numbers u ≡ Some k) ×
      (slice_get l.found.items k ≡ Some n);
}
