use Rattle.wb_scan.specs.Inner.Rankings.{ranked_by}
use Rattle.wb_scan.proofs.BeatLemmas.{NoneBelow}
use Rattle.wb_scan.proofs.winner.winner.Given as goal

abbrev pub invariant-places : goal.invariant-places
invariant-places l = NoneBelow (ranked_by l.ranking) l.places l.place-index
