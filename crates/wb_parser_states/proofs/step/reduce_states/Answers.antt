use Rattle.std.proofs.Common.{◌∙◌, ap, arith, subst}
use Rattle.std.proofs.lemmas.Result.{IfOk-weaker}
use Rattle.wb_lookahead.specs.Contents.{action_of}
use Rattle.wb_lookahead.specs.declared.action.Action.TheVariants.{Shift}
use Rattle.wb_parser_states.specs.Codes.{IsCodeOf}
use Rattle.wb_parser_states.specs.Stacks.{last_or}
use Rattle.wb_parser_states.specs.Steps.{HasOutcome}
use Rattle.wb_parser_states.specs.declared.outcome.Outcome.{Outcome}
use Rattle.wb_parser_states.proofs.CodeLemmas.{action_coded, code_found, column_within}
use Rattle.wb_parser_states.proofs.StepLemmas.{act_below, shift_case}
use Rattle.wb_parser_states.proofs.step.reduce_states.Goals as goal

pub at-code-requires-clause-terminal : goal.at-code-requires-clause-terminal
at-code-requires-clause-terminal c =
    column_within c.args.language.now.language.grammar c.args.language.now.tables c.args.reductions.now.codes c.args.terminal
    c.requires.reductions.codes c.requires.terminal

pub reductions-init : goal.reductions-init
reductions-init c =
    let g = c.args.language.now.language.grammar in
    let tables = c.args.language.now.tables in
    record {
      below = c.requires.states;
      code = subst (λ z. IsCodeOf g (action_of tables z c.args.terminal) c.at-code.result)
          (c.top.ensures ∙ ap (last_or 0) c.deref.ensures.value)
          (code_found g tables c.args.reductions.now.codes c.top.result c.args.terminal c.at-code.result c.requires.reductions.codes
          c.requires.terminal c.at-code.ensures);
      carries = λ text read prefix at place next n gives are. are;
      kept = c.requires.reductions;
    }

pub returns-then-code-eq0-2-clause-outcome : goal.returns-then-code-eq0-2-clause-outcome
returns-then-code-eq0-2-clause-outcome c =
    let before = c.reductions.states.items in
    let after = c.reduce_asked.new.states.items in
    let f : (o : Outcome) → HasOutcome c.args.language.now c.args.terminal before after o →
    HasOutcome c.args.language.now c.args.terminal c.args.states.now.items after o =
    λ o has text read prefix at place next n gives are. has text read prefix at place next n gives
    (c.reductions.invariant.carries text read prefix at place next n gives are) in
    IfOk-weaker c.reduce_asked.result (HasOutcome c.args.language.now c.args.terminal before after)
    (HasOutcome c.args.language.now c.args.terminal c.args.states.now.items after) f c.reduce_asked.ensures.outcome

pub returns-then-code-eq0-clause-target : goal.returns-then-code-eq0-clause-target
returns-then-code-eq0-clause-target c =
    let parts = c.args.language.now in
    let states = c.reductions.states.items in
    act_below parts c.tables-tables.ensures.language c.tables-tables.ensures.of_grammar c.args.terminal c.requires.terminal states
    (Shift c.state_in.result) (action_coded parts.language.grammar parts.tables
    (action_of parts.tables (last_or 0 states) c.args.terminal) c.reductions.code c.reductions.invariant.code
    (λ e. omega (arith, e, c.if-code-eq0-2.false)) c.state_in.ensures) c.reductions.invariant.below

pub returns-then-code-eq0-clause-outcome : goal.returns-then-code-eq0-clause-outcome
returns-then-code-eq0-clause-outcome c text read prefix at place next n gives are =
    let parts = c.args.language.now in
    let states = c.reductions.states.items in
    shift_case parts c.tables-tables.ensures.language c.tables-tables.ensures.of_grammar c.args.terminal c.requires.terminal states
    c.state_in.result (action_coded parts.language.grammar parts.tables (action_of parts.tables (last_or 0 states) c.args.terminal)
    c.reductions.code c.reductions.invariant.code (λ e. omega (arith, e, c.if-code-eq0-2.false)) c.state_in.ensures) text read prefix at
    (c.reductions.invariant.carries text read prefix at place next n gives are)

pub reductions-preserved : goal.reductions-preserved
reductions-preserved c =
    record {
      below = c.in_ok-code.ensures.states;
      code = c.in_ok-code.ensures.code;
      carries = λ text read prefix at place next n gives are. c.in_ok-code.ensures.carries text read prefix at place next n gives
          (c.reductions.invariant.carries text read prefix at place next n gives are);
      kept = c.in_ok-code.ensures.reductions;
    }
