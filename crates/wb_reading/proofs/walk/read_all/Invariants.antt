use Rattle.std.proofs.Common.{◌-◌, ◌≤◌, length}
use Rattle.wb_parser_states.specs.Kept.{AreReductions}
use Rattle.wb_reading.specs.Inner.Walks.{AreSound, HasRead}
use Rattle.wb_reading.proofs.walk.read_all.Given as goal

abbrev pub invariant-turns : goal.invariant-turns
invariant-turns l = record {
  within : l.at ≤ length l.text;
  sound : AreSound l.language l.states.items;
  reductions : AreReductions l.language.language.grammar l.language.tables l.reductions;
  read : HasRead l.language l.markers l.text l.states.items l.at;
}

abbrev pub decreases-turns : goal.decreases-turns
decreases-turns l = length l.text - l.at
