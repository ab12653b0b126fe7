use Rattle.wb_digraph.specs.Inner.Filling.{AreFilledUpTo, HoldFlowsLater}
use Rattle.wb_digraph.specs.Inner.Numbers.{HasNumber}
use Rattle.wb_digraph.proofs.fill.put_row.Given as goal

abbrev pub invariant-items : goal.invariant-items
invariant-items l = record {
  flows : HoldFlowsLater l.context.kernels.now (HasNumber l.context.kernels.now l.context.productions.now l.context.bases.now) l.numbers l.lookaheads;
  filled : AreFilledUpTo l.context.kernels.now l.state l.place l.lookaheads;
}
