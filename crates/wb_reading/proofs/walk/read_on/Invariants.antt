use Rattle.std.proofs.Common.{◌≡◌, ◌-◌, ◌≤◌, length, take}
use Rattle.wb_parser_states.specs.Kept.{AreReductions}
use Rattle.wb_parser_states.specs.Stacks.{last_or}
use Rattle.wb_reading.specs.Inner.Walks.{AreSound, HasRead}
use Rattle.wb_reading.proofs.walk.read_on.Given as goal

abbrev pub invariant-leaves : goal.invariant-leaves
invariant-leaves l = record {
  from : l.from ≤ l.at;
  within : l.at ≤ length l.text;
  count : l.count ≤ length l.states;
  length : length l.states ≡ length l.initial.states;
  sound : AreSound l.language (take l.count l.states);
  reductions : AreReductions l.language.language.grammar l.language.tables l.reductions;
  top : l.state ≡ last_or 0 (take l.count l.states);
  read : HasRead l.language l.markers l.text (take l.count l.states) l.at;
}

abbrev pub decreases-leaves : goal.decreases-leaves
decreases-leaves l = length l.text - l.at
