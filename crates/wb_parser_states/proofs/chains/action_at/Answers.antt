use Rattle.std.proofs.Common.{◌<◌, ◌≤◌, ◌∙◌, ap, subst, sym}
use Rattle.wb_lookahead.specs.Contents.{action_of, size_of}
use Rattle.wb_parser_states.specs.Chains.{IsRuleAction}
use Rattle.wb_parser_states.proofs.ChainLemmas.{acts_within}
use Rattle.wb_parser_states.proofs.TableLemmas.{terminals_of}
use Rattle.wb_parser_states.proofs.chains.action_at.Goals as goal

pub action-requires-clause-state : goal.action-requires-clause-state
action-requires-clause-state c = subst (λ z. c.args.state < size_of z) (sym c.tables.ensures.tables) c.requires.state

pub action-requires-clause-terminal : goal.action-requires-clause-terminal
action-requires-clause-terminal c =
    subst (λ z. c.args.terminal ≤ z.terminals) (sym c.tables.ensures.tables)
    (subst (λ z. c.args.terminal ≤ z) (sym (terminals_of c.tables.ensures.of_grammar)) c.requires.terminal)

pub with_rule-requires : goal.with_rule-requires
with_rule-requires c production act =
    subst (λ k. production < k) (sym c.requires.rules.count)
    (acts_within c.args.language.now.language.grammar c.args.language.now.tables c.args.state c.args.terminal c.action.result
    c.tables.ensures.of_grammar c.requires.state c.requires.terminal
    (c.action.ensures ∙ ap (λ z. action_of z c.args.state c.args.terminal) c.tables.ensures.tables) production act)

pub returns : goal.returns
returns c =
    subst (λ z. IsRuleAction c.args.language.now.language.grammar z c.with_rule.result)
    (c.action.ensures ∙ ap (λ z. action_of z c.args.state c.args.terminal) c.tables.ensures.tables)
    (c.with_rule.ensures c.args.language.now.language.grammar c.requires.rules)
