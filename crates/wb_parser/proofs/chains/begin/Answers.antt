use Rattle.std.proofs.Common.{subst, sym, ◌∙◌, ap, ◌<◌, ◌≤◌}
use Rattle.wb_lookahead.specs.Contents.{action_of, size_of}
use Rattle.wb_parser_states.proofs.TableLemmas.{terminals_of}
use Rattle.wb_parser.proofs.ChainLemmas.{chain_begun}
use Rattle.wb_parser.proofs.chains.begin.Goals as goal

pub action-requires-clause-state : goal.action-requires-clause-state
action-requires-clause-state c = subst (λ z. c.args.start.state < size_of z) (sym c.tables.ensures.tables) c.requires.state

pub action-requires-clause-terminal : goal.action-requires-clause-terminal
action-requires-clause-terminal c =
    subst (λ z. c.args.start.terminal ≤ z.terminals) (sym c.tables.ensures.tables)
    (subst (λ z. c.args.start.terminal ≤ z) (sym (terminals_of c.tables.ensures.of_grammar)) c.requires.terminal)

pub returns-clause-chain : goal.returns-clause-chain
returns-clause-chain c productions here =
    chain_begun c.args.language.now.language.grammar c.args.language.now.tables productions c.args.place c.args.start c.action.result
    c.requires here (c.action.ensures ∙ ap (λ z. action_of z c.args.start.state c.args.start.terminal) c.tables.ensures.tables)
