use Rattle.wb_digraph.specs.Inner.Numbers.{AreFirstsUpTo}
use Rattle.wb_digraph.proofs.firsts.firsts_of.Given as goal

abbrev pub invariant-states : goal.invariant-states
invariant-states l = AreFirstsUpTo l.context.kernels.now l.context.productions.now l.context.bases.now l.reads l.end l.state l.firsts.items
