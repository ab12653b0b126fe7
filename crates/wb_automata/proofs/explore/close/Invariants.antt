use Rattle.std.proofs.Common.{◌-◌, ◌^◌}
use Rattle.wb_automata_positions.specs.Transitions.{count_of}
use Rattle.wb_automata.specs.Inner.Accepted.{AreAccepted}
use Rattle.wb_automata.specs.Inner.Exploring.{RowsFrom}
use Rattle.wb_automata.proofs.explore.close.Given as goal

abbrev pub invariant-states : goal.invariant-states
invariant-states l = record {
  from : RowsFrom l.tables l.bytes l.fn.states l.states l.rows.moves l.i;
  accepted : AreAccepted l.tables l.states.sets l.rows.accepted l.i;
}

abbrev pub decreases-states : goal.decreases-states
decreases-states l = 2 ^ count_of l.tables - l.i
