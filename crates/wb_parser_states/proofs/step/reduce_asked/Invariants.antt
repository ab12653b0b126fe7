use Rattle.std.proofs.Common.{◌<◌}
use Rattle.std.specs.Prelude.{All}
use Rattle.wb_lookahead.specs.Contents.{action_of, size_of}
use Rattle.wb_parser_states.specs.Codes.{IsCodeOf}
use Rattle.wb_parser_states.specs.Kept.{AreReductions}
use Rattle.wb_parser_states.specs.Stacks.{last_or}
use Rattle.wb_parser_states.specs.Steps.{CarryOver}
use Rattle.wb_parser_states.proofs.step.reduce_asked.Given as goal

abbrev pub invariant-reductions : goal.invariant-reductions
invariant-reductions l = record {
  below : All (λ s. s < size_of l.language.tables) l.states.items;
  code : IsCodeOf l.language.language.grammar (action_of l.language.tables (last_or 0 l.states.items) l.terminal) l.code;
  carries : CarryOver l.language l.terminal l.initial.states.items l.states.items;
  kept : AreReductions l.language.language.grammar l.language.tables l.reductions;
}
