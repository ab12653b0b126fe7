use Rattle.wb_graph.proofs.MarkLemmas.{AreFirstNumbers}
use Rattle.wb_graph.proofs.strongly_connected.numbers_of.Given as goal

abbrev pub invariant-marks : goal.invariant-marks
invariant-marks l = record { first : AreFirstNumbers l.numbers.items l.marks l.mark-index }
