use Rattle.std.proofs.Common.{length, ◌-◌}
use Rattle.wb_scan.proofs.LongestLemmas.{IsReading}
use Rattle.wb_scan.proofs.unlisted.last_match.Given as goal

abbrev pub invariant-bytes : goal.invariant-bytes
invariant-bytes l = IsReading l.automaton l.set l.text l.at l.place l.state l.found.state l.found.end

abbrev pub decreases-bytes : goal.decreases-bytes
decreases-bytes l = length l.text - l.place
