use Rattle.std.proofs.Common.{◌∙◌, arith, refl, subst, take}
use Rattle.wb_lookahead.specs.declared.action.Action.TheVariants.{Shift}
use Rattle.wb_lookahead.specs.Contents.{action_of}
use Rattle.wb_parser_states.specs.Codes.{IsCodeOf}
use Rattle.wb_parser_states.specs.Stacks.{last_or}
use Rattle.wb_parser_states.proofs.CodeLemmas.{action_coded, code_found, column_within}
use Rattle.wb_parser_states.proofs.StepLemmas.{act_below, shift_case}
use Rattle.wb_parser_states.proofs.within.reduce_within.Goals as goal

pub at-requires-clause-terminal : goal.at-requires-clause-terminal
at-requires-clause-terminal c =
    column_within c.args.language.now.language.grammar c.args.language.now.tables c.args.reductions.now.codes c.args.terminal
    c.requires.reductions.codes c.requires.terminal

pub reductions-init : goal.reductions-init
reductions-init c =
    let g = c.args.language.now.language.grammar in
    let tables = c.args.language.now.tables in
    record {
      left = record {
        reached = record {
          within = c.requires.count;
          below = c.requires.states;
          carries = λ text read prefix at place next n gives are. are;
        };
        code = subst (λ z. IsCodeOf g (action_of tables z c.args.terminal) c.at.result) c.top.ensures
            (code_found g tables c.args.reductions.now.codes c.top.result c.args.terminal c.at.result c.requires.reductions.codes
            c.requires.terminal c.at.ensures);
      };
      length = refl;
      kept = c.requires.reductions;
    }

pub reductions-preserved : goal.reductions-preserved
reductions-preserved c =
    let more = c.reduce_some-left.ensures.left in
    record {
      left = record {
        reached = record {
          within = more.reached.within;
          below = more.reached.below;
          carries = λ text read prefix at place next n gives are. more.reached.carries text read prefix at place next n gives
              (c.reductions.invariant.left.reached.carries text read prefix at place next n gives are);
        };
        code = more.code;
      };
      length = c.reduce_some-left.ensures.length ∙ c.reductions.invariant.length;
      kept = c.reduce_some-left.ensures.reductions;
    }

pub returns-then-left-eq0-clause-reached : goal.returns-then-left-eq0-clause-reached
returns-then-left-eq0-clause-reached c =
    let parts = c.args.language.now in
    let states = take c.reductions.left.kept c.reductions.states in
    let is = action_coded parts.language.grammar parts.tables (action_of parts.tables (last_or 0 states) c.args.terminal)
    c.reductions.left.code c.reductions.invariant.left.code (λ e. omega (arith, e, c.if-left-eq0-2.false)) c.state_in.ensures in
    let reached = c.reductions.invariant.left.reached in (
      reached,
      act_below parts c.tables-tables.ensures.language c.tables-tables.ensures.of_grammar c.args.terminal c.requires.terminal states
          (Shift c.state_in.result) is reached.below,
      λ text read prefix at place next n gives are.
          shift_case parts c.tables-tables.ensures.language c.tables-tables.ensures.of_grammar c.args.terminal c.requires.terminal states
          c.state_in.result is text read prefix at (reached.carries text read prefix at place next n gives are),
    )
