use Rattle.wb_digraph.specs.Inner.Filling.{AreFilledUpTo, HoldFlowsLater}
use Rattle.wb_digraph.specs.Inner.Numbers.{HasNumber}
use Rattle.wb_digraph.proofs.fill.put_all.Given as goal

abbrev pub invariant-states : goal.invariant-states
invariant-states l = record {
  flows : HoldFlowsLater l.context.kernels.now (HasNumber l.context.kernels.now l.context.productions.now l.context.bases.now) l.numbers l.lookaheads;
  filled : AreFilledUpTo l.context.kernels.now l.state 0 l.lookaheads;
}
