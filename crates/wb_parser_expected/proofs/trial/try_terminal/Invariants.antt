use Rattle.std.proofs.Common.{◌≡◌, ◌≤◌, length}
use Rattle.wb_lookahead.specs.Contents.{action_of}
use Rattle.wb_parser_states.specs.Stacks.{last_or}
use Rattle.wb_parser_expected.specs.Inner.Trials.{AreBelow, Leads, over}
use Rattle.wb_parser_expected.proofs.trial.try_terminal.Given as goal

abbrev pub invariant-reductions : goal.invariant-reductions
invariant-reductions l = record {
  kept : l.kept ≤ length l.states;
  extra : AreBelow l.language l.extra.items;
  action : l.action ≡ action_of l.language.tables (last_or 0 (over l.kept l.states l.extra.items)) l.terminal;
  leads : Leads l.language l.terminal l.states (over l.kept l.states l.extra.items);
}
