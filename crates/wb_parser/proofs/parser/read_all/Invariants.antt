use Rattle.std.proofs.Common.{◌-◌, ◌≤◌, length}
use Rattle.wb_parser.specs.Parses.{Extends}
use Rattle.wb_parser.specs.Inner.Chains.{AreReductions}
use Rattle.wb_parser.specs.Inner.Steps.{IsReady, IsSound}
use Rattle.wb_parser.proofs.parser.read_all.Given as goal

abbrev pub invariant-leaves : goal.invariant-leaves
invariant-leaves l = record {
  within : l.at ≤ length l.text;
  sound : IsSound l.language l.stack.states.items l.stack.values l.store;
  ready : IsReady l.language l.text l.stack.states.items l.stack.values l.store l.at;
  extends : Extends l.initial.store l.store;
  before : l.before ≤ length l.store;
  reductions : AreReductions l.language.language.grammar l.language.tables l.reductions;
}

abbrev pub decreases-leaves : goal.decreases-leaves
decreases-leaves l = length l.text - l.at
