use Rattle.std.proofs.Common.{ℕ, take}
use Rattle.std.specs.Prelude.{Contains}
use Rattle.wb_termset.specs.Sets.{IsMember}
use Rattle.wb_grammar_theory.specs.Items.{initial_item}
use Rattle.wb_lookahead.specs.Inner.Spreading.{AreSound, IsItemPassed, Spreads}
use Rattle.wb_lookahead.proofs.propagate.pass_all.Given as goal

abbrev pub invariant-productions : goal.invariant-productions
invariant-productions l = record {
  sound : AreSound l.context.kernels.now l.lookaheads l.worklist;
  spreads : Spreads l.initial.lookaheads l.initial.worklist l.lookaheads l.worklist;
  passed : (q t : ℕ) → Contains (take l.production-index l.numbers) q → IsMember l.set t →
      IsItemPassed l.context.kernels.now l.lookaheads l.state (initial_item q) t;
}
