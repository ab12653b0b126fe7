use Rattle.std.proofs.Common.{ℕ, ◌<◌}
use Rattle.wb_grammar.specs.Inner.Worklists.{state_of, IsWorklist, IsSettled, AreSettled, left_of}
use Rattle.wb_grammar.proofs.least_fixpoint.least_set.Given as goal

abbrev pub invariant-productions : goal.invariant-productions
invariant-productions l = record {
  worklist : IsWorklist l.grammar l.terminals (state_of l.worklist);
  settled : (p : ℕ) → p < l.production → IsSettled l.grammar l.terminals (state_of l.worklist) p;
}

abbrev pub invariant-waiting : goal.invariant-waiting
invariant-waiting l = IsWorklist l.grammar l.terminals (state_of l.worklist) × AreSettled l.grammar l.terminals (state_of l.worklist)

abbrev pub decreases-waiting : goal.decreases-waiting
decreases-waiting l = left_of (state_of l.worklist)
