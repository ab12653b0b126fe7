use Rattle.wb_graph.proofs.MarkLemmas.{ClosesFirst}
use Rattle.wb_graph.proofs.groups.close_all.Given as goal

abbrev pub invariant-vertices : goal.invariant-vertices
invariant-vertices l = record { closes : ClosesFirst l.vertices l.vertex-index l.number l.fn.marks l.marks }
