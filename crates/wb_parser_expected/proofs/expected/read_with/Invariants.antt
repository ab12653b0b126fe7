use Rattle.std.proofs.Common.{◌-◌, ◌≤◌, length}
use Rattle.wb_parser_expected.specs.Inner.Trials.{AreBelow}
use Rattle.wb_parser_expected.specs.Inner.Walks.{HasRead}
use Rattle.wb_parser_expected.proofs.expected.read_with.Given as goal

abbrev pub invariant-leaves : goal.invariant-leaves
invariant-leaves l = record {
  within : l.at ≤ length l.text;
  below : AreBelow l.language l.states.items;
  read : HasRead l.language l.text l.states.items l.at;
}

abbrev pub decreases-leaves : goal.decreases-leaves
decreases-leaves l = length l.text - l.at
