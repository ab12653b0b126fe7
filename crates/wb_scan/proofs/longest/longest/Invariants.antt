use Rattle.std.proofs.Common.{length, ◌-◌}
use Rattle.wb_scan.proofs.ReachLemmas.{IsReadingBy}
use Rattle.wb_scan.proofs.longest.longest.Given as goal

abbrev pub invariant-bytes : goal.invariant-bytes
invariant-bytes l = IsReadingBy l.automaton l.landings l.set l.text l.at l.place l.state l.found.end l.found.landing

abbrev pub decreases-bytes : goal.decreases-bytes
decreases-bytes l = length l.text - l.place
