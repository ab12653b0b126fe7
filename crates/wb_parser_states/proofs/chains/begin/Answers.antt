use Rattle.std.proofs.Common.{subst, sym, ◌∙◌, ap, ◌<◌, ◌≤◌}
use Rattle.wb_lookahead.specs.Contents.{action_of, size_of}
use Rattle.wb_parser_states.proofs.ChainLemmas.{chain_begun}
use Rattle.wb_parser_states.proofs.TableLemmas.{terminals_of}
use Rattle.wb_parser_states.proofs.chains.begin.Goals as goal

pub action-requires-clause-state : goal.action-requires-clause-state
action-requires-clause-state c = subst (λ z. c.args.start.from < size_of z) (sym c.tables.ensures.tables) c.requires.from

pub action-requires-clause-terminal : goal.action-requires-clause-terminal
action-requires-clause-terminal c =
    subst (λ z. c.args.start.terminal ≤ z.terminals) (sym c.tables.ensures.tables)
    (subst (λ z. c.args.start.terminal ≤ z) (sym (terminals_of c.tables.ensures.of_grammar)) c.requires.terminal)

pub returns-clause-chain : goal.returns-clause-chain
returns-clause-chain c =
    chain_begun c.args.language.now.language.grammar c.args.language.now.tables c.args.start c.action.result c.tables.ensures.of_grammar
    c.requires
    (c.action.ensures ∙ ap (λ z. action_of z c.args.start.from c.args.start.terminal) c.tables.ensures.tables)
