use Rattle.std.proofs.Common.{length}
use Rattle.wb_automata.specs.Inner.Accepted.{AreAccepted}
use Rattle.wb_automata.specs.Inner.Exploring.{AreExplored}
use Rattle.wb_automata.proofs.explore.explore.Given as goal

abbrev pub invariant-loop-set : goal.invariant-loop-set
invariant-loop-set l = record {
  explored : AreExplored l.tables l.bytes l.explored.states l.explored.rows.moves l.explored.starts.items l.set;
  accepted : AreAccepted l.tables l.explored.states.sets l.explored.rows.accepted (length l.explored.states.sets);
}
