use Rattle.wb_scan.specs.Inner.Rankings.{ranked_by}
use Rattle.wb_scan.proofs.BeatLemmas.{BeatsBelow}
use Rattle.wb_scan.proofs.winner.beats_others.Given as goal

abbrev pub invariant-others : goal.invariant-others
invariant-others l = BeatsBelow (ranked_by l.ranking) l.place l.places l.other-index
