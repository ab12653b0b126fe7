use Rattle.std.proofs.Common.{◌∙◌, ap, subst}
use Rattle.wb_lookahead.specs.declared.action.Action.TheVariants.{Shift}
use Rattle.wb_lookahead.specs.Contents.{action_of}
use Rattle.wb_parser_states.specs.Codes.{IsCodeOf}
use Rattle.wb_parser_states.specs.Stacks.{last_or}
use Rattle.wb_parser_states.proofs.CodeLemmas.{action_on, code_found, column_within}
use Rattle.wb_parser_states.proofs.StepLemmas.{accept_case, act_below, shift_case, stuck_case}
use Rattle.wb_parser_states.proofs.step.reduce_asked.Goals as goal

pub at-code-requires-clause-terminal : goal.at-code-requires-clause-terminal
at-code-requires-clause-terminal c =
    column_within c.args.language.now.language.grammar c.args.language.now.tables c.args.reductions.now.codes c.args.terminal
    c.requires.reductions.codes c.requires.terminal

pub reductions-init : goal.reductions-init
reductions-init c =
    let g = c.args.language.now.language.grammar in
    let tables = c.args.language.now.tables in
    record {
      below = c.requires.states;
      code = subst (λ z. IsCodeOf g (action_of tables z c.args.terminal) c.at-code.result)
          (c.top.ensures ∙ ap (last_or 0) c.deref.ensures.value)
          (code_found g tables c.args.reductions.now.codes c.top.result c.args.terminal c.at-code.result c.requires.reductions.codes
          c.requires.terminal c.at-code.ensures);
      carries = λ text read prefix at place next n gives are. are;
      kept = c.requires.reductions;
    }

pub returns-in-Shift-clause-target : goal.returns-in-Shift-clause-target
returns-in-Shift-clause-target c =
    let parts = c.args.language.now in
    let states = c.reductions.states.items in
    act_below parts c.tables-tables.ensures.language c.tables-tables.ensures.of_grammar c.args.terminal c.requires.terminal states
    (Shift c.in-Shift.target) (action_on parts.language.grammar parts.tables c.args.terminal _ states c.deref-in-reductions.ensures.value c.in-Shift.is
    c.action_for.ensures.action) c.reductions.invariant.below

pub returns-in-Shift-clause-outcome : goal.returns-in-Shift-clause-outcome
returns-in-Shift-clause-outcome c text read prefix at place next n gives are =
    let parts = c.args.language.now in
    let states = c.reductions.states.items in
    shift_case parts c.tables-tables.ensures.language c.tables-tables.ensures.of_grammar c.args.terminal c.requires.terminal states c.in-Shift.target
    (action_on parts.language.grammar parts.tables c.args.terminal _ states c.deref-in-reductions.ensures.value c.in-Shift.is
    c.action_for.ensures.action) text read prefix at
    (c.reductions.invariant.carries text read prefix at place next n gives are)

pub returns-in-Accept-clause-outcome : goal.returns-in-Accept-clause-outcome
returns-in-Accept-clause-outcome c text read prefix at place next n gives are =
    let parts = c.args.language.now in
    let states = c.reductions.states.items in
    accept_case parts c.tables-tables.ensures.language c.tables-tables.ensures.of_grammar c.args.terminal c.requires.terminal states
    (action_on parts.language.grammar parts.tables c.args.terminal _ states c.deref-in-reductions.ensures.value c.in-Accept.is
    c.action_for.ensures.action) text read prefix at
    (c.reductions.invariant.carries text read prefix at place next n gives are)

pub returns-in-None-clause-outcome : goal.returns-in-None-clause-outcome
returns-in-None-clause-outcome c text read prefix at place next n gives are =
    let parts = c.args.language.now in
    let states = c.reductions.states.items in
    stuck_case parts c.tables-tables.ensures.language c.tables-tables.ensures.of_grammar c.args.terminal c.requires.terminal states
    (action_on parts.language.grammar parts.tables c.args.terminal _ states c.deref-in-reductions.ensures.value c.in-None.is
    c.action_for.ensures.action) text read prefix at
    (c.reductions.invariant.carries text read prefix at place next n gives are)

pub reduce_top-requires-clause-rule : goal.reduce_top-requires-clause-rule
reduce_top-requires-clause-rule c =
    let parts = c.args.language.now in
    action_on parts.language.grammar parts.tables c.args.terminal _ c.reductions.states.items c.deref-in-reductions.ensures.value c.in-Reduce.is
    c.action_for.ensures.action

pub reductions-preserved : goal.reductions-preserved
reductions-preserved c =
    record {
      below = c.in_ok-code-in-Reduce.ensures.states;
      code = c.in_ok-code-in-Reduce.ensures.code;
      carries = λ text read prefix at place next n gives are. c.in_ok-code-in-Reduce.ensures.carries text read prefix at place next n gives
          (c.reductions.invariant.carries text read prefix at place next n gives are);
      kept = c.in_ok-code-in-Reduce.ensures.reductions;
    }
