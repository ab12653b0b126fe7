use Rattle.std.proofs.Common.{◌≤◌, length}
use Rattle.wb_automata_positions.specs.Inner.Machines.{AreContinued}
use Rattle.wb_automata_positions.proofs.places.set_parts.Given as goal

abbrev pub invariant-nodes : goal.invariant-nodes
invariant-nodes l = record {
  within : l.place ≤ length l.nodes;
  continued : AreContinued l.nodes l.roots l.next.items l.count l.place;
}

abbrev pub decreases-nodes : goal.decreases-nodes
decreases-nodes l = l.place
