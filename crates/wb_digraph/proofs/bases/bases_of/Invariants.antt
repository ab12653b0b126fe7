use Rattle.wb_digraph.specs.Inner.Numbers.{AreBasesUpTo}
use Rattle.wb_digraph.proofs.bases.bases_of.Given as goal

abbrev pub invariant-states : goal.invariant-states
invariant-states l = AreBasesUpTo l.kernels l.state l.bases.items
