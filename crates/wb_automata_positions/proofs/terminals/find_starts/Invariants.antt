use Rattle.std.proofs.Common.{◌-◌, ◌≤◌, ◌<◌}
use Rattle.wb_termset.specs.Sets.{IsMember}
use Rattle.wb_automata_positions.proofs.StartLemmas.{StartPass}
use Rattle.wb_automata_positions.proofs.terminals.find_starts.Given as goal

abbrev pub invariant-starts : goal.invariant-starts
invariant-starts l = record {
  within : l.k ≤ l.count;
  member : l.k < l.count → IsMember l.set l.k;
  pass : StartPass l.n l.set l.places l.k;
}

abbrev pub decreases-starts : goal.decreases-starts
decreases-starts l = l.count - l.k
