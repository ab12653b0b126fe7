use Rattle.std.proofs.Common.{ℕ, ◌<◌}
use Rattle.wb_generate.specs.Inner.Lowerings.{IsLowering, IsSettled, left_of, state_of}
use Rattle.wb_generate.proofs.counts.lowered_counts.Given as goal

abbrev pub invariant-productions : goal.invariant-productions
invariant-productions l = record {
  lowering : IsLowering l.grammar 100001 (state_of l.lowering);
  settled : (p : ℕ) → p < l.production → IsSettled l.grammar 100001 (state_of l.lowering) p;
}

abbrev pub invariant-waiting : goal.invariant-waiting
invariant-waiting l = record {
  lowering : IsLowering l.grammar 100001 (state_of l.lowering);
  settled : (p : ℕ) → IsSettled l.grammar 100001 (state_of l.lowering) p;
}

abbrev pub decreases-waiting : goal.decreases-waiting
decreases-waiting l = left_of (state_of l.lowering)
