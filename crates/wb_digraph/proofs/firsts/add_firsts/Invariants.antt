use Rattle.wb_digraph.proofs.FirstLemmas.{AreRowFirsts}
use Rattle.wb_digraph.proofs.firsts.add_firsts.Given as goal

abbrev pub invariant-items : goal.invariant-items
invariant-items l = AreRowFirsts l.context.kernels.now l.context.productions.now l.context.bases.now l.reads l.end l.state l.item-index l.firsts.items
