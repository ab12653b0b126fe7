use Rattle.std.proofs.Common.{◌≡◌, ◌<◌, ◌≤◌, ℕ, true, false, length}
use Rattle.wb_grammar.specs.Inner.Paths.{IsTrail}
use Rattle.wb_grammar.proofs.SweepLemmas.{ClosedBefore}
use Rattle.wb_grammar.proofs.paths.sweep.Given as goal

abbrev pub invariant-edges : goal.invariant-edges
invariant-edges l = record {
  len : length l.places.items ≡ length l.fn.places.items;
  trail : (to : ℕ) → IsTrail l.edges to l.fn.places.items l.fn.trail.items → IsTrail l.edges to l.places.items l.trail.items;
  keeps : length l.fn.trail.items ≤ length l.trail.items;
  grew : l.grew ≡ true → length l.fn.trail.items < length l.trail.items;
  closed : l.grew ≡ false → ClosedBefore l.edges l.places.items l.above-index;
}
