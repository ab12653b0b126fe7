use Rattle.std.proofs.Common.{◌<◌, subst, sym}
use Rattle.wb_parser_states.proofs.ChainLemmas.{chain_ends}
use Rattle.wb_parser_states.proofs.chains.chain_end.Goals as goal

pub with_rule-requires : goal.with_rule-requires
with_rule-requires c production act =
    subst (λ k. production < k) (sym c.requires.rules.count) (c.follow-chain.ensures.chain.within production act)

pub returns : goal.returns
returns c =
    chain_ends c.args.language.now.language.grammar c.args.language.now.tables c.args.start c.follow-chain.result c.with_rule.result
    c.follow-chain.ensures.chain c.follow-chain.ensures.start
    (c.with_rule.ensures c.args.language.now.language.grammar c.requires.rules)
