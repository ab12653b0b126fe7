use Rattle.wb_scan.proofs.PreferenceLemmas.{AreIndexedTo}
use Rattle.wb_scan.proofs.preferences.index_of.Given as goal

abbrev pub invariant-pairs : goal.invariant-pairs
invariant-pairs l = AreIndexedTo l.pairs l.pair-index l.index.keys
