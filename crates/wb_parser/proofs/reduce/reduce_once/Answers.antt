use Rattle.std.proofs.Common.{subst, sym, ap, ◌∙◌, ◌<◌, ◌^◌, ◌∷◌, [], arith, length, length-append}
use Rattle.wb_values.specs.Tree.{node}
use Rattle.wb_values.specs.ValuesIn.{values_in, last}
use Rattle.wb_lookahead.specs.Contents.{TablesView, action_of, size_of}
use Rattle.wb_parser_states.specs.Stacks.{last_or}
use Rattle.wb_parser_states.proofs.TableLemmas.{zero_below, action_below, IsActionBelow}
use Rattle.wb_parser_states.proofs.StateLemmas.{last_below}
use Rattle.wb_parser.proofs.StepLemmas.{reduce_case}
use Rattle.wb_parser.proofs.reduce.reduce_once.Goals as goal

pub reduce-requires-clause-production : goal.reduce-requires-clause-production
reduce-requires-clause-production c =
    subst (IsActionBelow c.args.language.now.language.grammar c.args.language.now.tables) c.requires.action
    (action_below c.tables-tables.ensures.of_grammar (last_or 0 c.args.stack.now.states.items) c.args.terminal
    (last_below (size_of c.args.language.now.tables) 0 c.args.stack.now.states.items (zero_below c.tables-tables.ensures.of_grammar)
    c.requires.sound.states_below) c.requires.terminal)

pub action-requires-clause-state : goal.action-requires-clause-state
action-requires-clause-state c =
    let n = size_of c.args.language.now.tables in
    subst (λ z. c.in_ok-state.state < size_of z) (sym c.tables-tables.ensures.tables)
    (subst (λ s. s < n) (sym c.in_ok-state.ensures.top)
    (last_below n 0 c.reduce.new.stack.states.items (zero_below c.tables-tables.ensures.of_grammar) c.in_ok-state.ensures.states))

pub returns-clause-reduced : goal.returns-clause-reduced
returns-clause-reduced c = record {
  carries = reduce_case c.args.language.now c.tables-tables.ensures.language c.tables-tables.ensures.of_grammar c.args.terminal
      c.requires.terminal c.args.production c.requires.action c.requires.sound c.in_ok-state.ensures.reduction;
  sound = record {
    language = c.requires.sound.language;
    tables_of = c.requires.sound.tables_of;
    states_below = c.in_ok-state.ensures.states;
    values_in_store = c.in_ok-state.ensures.values;
  };
  extends = c.in_ok-state.ensures.extends;
}

pub returns-clause-action : goal.returns-clause-action
returns-clause-action c =
    c.action.ensures ∙ ap (λ (z : TablesView). action_of z c.in_ok-state.state c.args.terminal) c.tables-tables.ensures.tables
    ∙ ap (λ s. action_of c.args.language.now.tables s c.args.terminal) c.in_ok-state.ensures.top

pub returns-clause-longer : goal.returns-clause-longer
returns-clause-longer c =
    let r = c.in_ok-state.ensures.reduction in
    let more = length-append c.args.store.now (node c.args.production (values_in c.args.store.now (last r.width c.args.stack.now.values)) ∷ []) in
    (subst (λ n. n < 2 ^ 64) r.id_is r.fits, omega (arith, ap length r.trees_are, more))
