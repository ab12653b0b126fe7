use Rattle.std.proofs.Common.{◌<◌, ◌∙◌, ap, subst, sym, length, arith}
use Rattle.std.proofs.lemmas.List.{take_all}
use Rattle.wb_lookahead.specs.Contents.{TablesView, action_of, size_of}
use Rattle.wb_parser_states.specs.Stacks.{last_or}
use Rattle.wb_parser.proofs.ExtendLemmas.{extends_more}
use Rattle.wb_parser_states.proofs.TableLemmas.{zero_below, action_below, IsActionBelow}
use Rattle.wb_parser_states.proofs.StateLemmas.{last_below}
use Rattle.wb_parser.proofs.StepLemmas.{shift_case, accept_case, stuck_case}
use Rattle.wb_parser.proofs.step.reduce_all.Goals as goal

pub action-action-requires-clause-state : goal.action-action-requires-clause-state
action-action-requires-clause-state c =
    let n = size_of c.args.language.now.tables in
    subst (λ z. c.top.result < size_of z) (sym c.tables-tables.ensures.tables)
    (subst (λ s. s < n) (sym (c.top.ensures ∙ ap (last_or 0) c.deref.ensures.value))
    (last_below n 0 c.args.stack.now.states.items (zero_below c.tables-tables.ensures.of_grammar) c.requires.sound.states_below))

pub reductions-smaller : goal.reductions-smaller
reductions-smaller c =
    omega (arith, c.in_ok-action-in-Reduce.ensures.longer.0, c.in_ok-action-in-Reduce.ensures.longer.1)

pub returns-in-Shift-clause-below : goal.returns-in-Shift-clause-below
returns-in-Shift-clause-below c =
    subst (IsActionBelow c.args.language.now.language.grammar c.args.language.now.tables)
    (sym c.reductions.invariant.action ∙ c.in-Shift.is)
    (action_below c.tables-tables.ensures.of_grammar (last_or 0 c.reductions.stack.states.items) c.args.terminal
    (last_below (size_of c.args.language.now.tables) 0 c.reductions.stack.states.items (zero_below c.tables-tables.ensures.of_grammar)
    c.reductions.invariant.reduced.sound.states_below) c.requires.terminal)

pub returns-in-Shift-clause-outcome : goal.returns-in-Shift-clause-outcome
returns-in-Shift-clause-outcome c text prefix at place next n gives is =
    shift_case c.args.language.now c.tables-tables.ensures.language c.tables-tables.ensures.of_grammar c.args.terminal c.requires.terminal
    c.in-Shift.target (sym c.reductions.invariant.action ∙ c.in-Shift.is) text prefix at
    (c.reductions.invariant.reduced.carries text prefix at place next n gives is)

pub returns-in-Accept-clause-outcome : goal.returns-in-Accept-clause-outcome
returns-in-Accept-clause-outcome c text prefix at place next n gives is =
    accept_case c.args.language.now c.tables-tables.ensures.language c.tables-tables.ensures.of_grammar c.args.terminal c.requires.terminal
    (sym c.reductions.invariant.action ∙ c.in-Accept.is) text prefix at
    (c.reductions.invariant.reduced.carries text prefix at place next n gives is)

pub returns-in-None-clause-outcome : goal.returns-in-None-clause-outcome
returns-in-None-clause-outcome c text prefix at place next n gives is =
    stuck_case c.args.language.now c.tables-tables.ensures.language c.tables-tables.ensures.of_grammar c.args.terminal c.requires.terminal
    (sym c.reductions.invariant.action ∙ c.in-None.is) text prefix at place next n gives
    (c.reductions.invariant.reduced.carries text prefix at place next n gives is)

pub reductions-init : goal.reductions-init
reductions-init c = record {
  action = c.action-action.ensures ∙ ap (λ (z : TablesView). action_of z c.top.result c.args.terminal) c.tables-tables.ensures.tables
      ∙ ap (λ s. action_of c.args.language.now.tables s c.args.terminal) (c.top.ensures ∙ ap (last_or 0) c.deref.ensures.value);
  reduced = record {
    carries = λ text prefix at place next n gives are. are;
    sound = c.requires.sound;
    extends = take_all (length c.args.store.now) c.args.store.now (omega arith);
  };
  reductions = c.requires.reductions;
}

pub reductions-preserved : goal.reductions-preserved
reductions-preserved c =
    let r = c.in_ok-action-in-Reduce.ensures.reduced in
    record {
      action = c.in_ok-action-in-Reduce.ensures.action;
      reduced = record {
        carries = λ text prefix at place next n gives are. r.carries text prefix at place next n gives
            (c.reductions.invariant.reduced.carries text prefix at place next n gives are);
        sound = r.sound;
        extends = extends_more c.args.store.now c.reductions.store c.reduce_on.new.store c.reductions.invariant.reduced.extends r.extends;
      };
      reductions = c.in_ok-action-in-Reduce.ensures.reductions;
    }
