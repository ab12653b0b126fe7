use Rattle.std.proofs.Common.{◌≡◌, length}
use Rattle.wb_flow.proofs.IndexLemmas.{IsIndexTo}
use Rattle.wb_flow.proofs.occurrences.rows_of.Given as goal

abbrev pub invariant-occurrences : goal.invariant-occurrences
invariant-occurrences l =
    (length l.index ≡ length l.attributes.nonterminals) × IsIndexTo l.attributes.occurrences l.index l.number
