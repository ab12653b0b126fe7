use Rattle.std.proofs.Common.{◌<◌, ◌≤◌, ◌∙◌, ap, subst, sym}
use Rattle.wb_lookahead.specs.Contents.{TablesView, action_of, size_of}
use Rattle.wb_parser_states.proofs.TableLemmas.{terminals_of}
use Rattle.wb_parser_expected.proofs.TrialLemmas.{top_over_below}
use Rattle.wb_parser_expected.proofs.trial.action_over.Goals as goal

pub action-requires-clause-state : goal.action-requires-clause-state
action-requires-clause-state c =
    subst (λ (z : TablesView). c.top_over-state.result < size_of z) (sym c.tables-tables.ensures.tables)
    (top_over_below c.args.language.now.tables c.tables-tables.ensures.of_grammar c.args.kept c.args.states.now c.args.extra.now
    c.top_over-state.result c.top_over-state.ensures c.requires.states c.requires.extra)

pub action-requires-clause-terminal : goal.action-requires-clause-terminal
action-requires-clause-terminal c =
    subst (λ (z : TablesView). c.args.terminal ≤ z.terminals) (sym c.tables-tables.ensures.tables)
    (subst (λ z. c.args.terminal ≤ z) (sym (terminals_of c.tables-tables.ensures.of_grammar)) c.requires.terminal)

pub returns : goal.returns
returns c =
    c.action.ensures ∙ (ap (λ (z : TablesView). action_of z c.top_over-state.result c.args.terminal) c.tables-tables.ensures.tables
    ∙ ap (λ s. action_of c.args.language.now.tables s c.args.terminal) c.top_over-state.ensures)
