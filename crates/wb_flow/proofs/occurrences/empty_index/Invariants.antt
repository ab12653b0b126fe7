use Rattle.wb_flow.proofs.IndexLemmas.{AreEmpty, lists_of}
use Rattle.wb_flow.proofs.occurrences.empty_index.Given as goal

abbrev pub invariant-rows : goal.invariant-rows
invariant-rows l = AreEmpty (lists_of l.rows.items) l.counter
