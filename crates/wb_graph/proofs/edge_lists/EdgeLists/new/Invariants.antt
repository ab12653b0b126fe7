use Rattle.wb_graph.proofs.TakingLemmas.{IsBuilt}
use Rattle.wb_graph.proofs.edge_lists.EdgeLists.new.Given as goal

abbrev pub invariant-loop-number : goal.invariant-loop-number
invariant-loop-number l = IsBuilt l.count l.edges l.number l.firsts.items l.links.items
