use Rattle.std.proofs.Common.{◌≡◌}
use Rattle.wb_flow.proofs.IndexLemmas.{lists_of}
use Rattle.wb_flow.proofs.occurrences.OccurrenceIndex.add_keys.Given as goal

abbrev pub invariant-occurrences : goal.invariant-occurrences
invariant-occurrences l = lists_of l.self-inside.rows.items ≡ l.fn.self
