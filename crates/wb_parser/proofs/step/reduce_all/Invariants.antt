use Rattle.std.proofs.Common.{◌≡◌, ◌-◌, ◌^◌, length}
use Rattle.wb_lookahead.specs.Contents.{action_of}
use Rattle.wb_parser_states.specs.Stacks.{last_or}
use Rattle.wb_parser.specs.Inner.Chains.{AreReductions}
use Rattle.wb_parser.specs.Inner.Steps.{AreReduced}
use Rattle.wb_parser.proofs.step.reduce_all.Given as goal

abbrev pub invariant-reductions : goal.invariant-reductions
invariant-reductions l = record {
  action : l.action ≡ action_of l.language.tables (last_or 0 l.stack.states.items) l.terminal;
  reduced : AreReduced l.language l.terminal l.initial.stack.states.items l.initial.stack.values l.initial.store l.stack.states.items
      l.stack.values l.store;
  reductions : AreReductions l.language.language.grammar l.language.tables l.reductions;
}

abbrev pub decreases-reductions : goal.decreases-reductions
decreases-reductions l = 2 ^ 64 - length l.store
