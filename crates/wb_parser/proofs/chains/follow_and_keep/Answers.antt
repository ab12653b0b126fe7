use Rattle.std.proofs.Common.{subst, sym}
use Rattle.wb_parser_states.specs.Rules.{AreRules}
use Rattle.wb_parser.proofs.ChainLemmas.{chains_set, chains_stay}
use Rattle.wb_parser.proofs.chains.follow_and_keep.Goals as goal

pub follow-chain-requires-clause-rules : goal.follow-chain-requires-clause-rules
follow-chain-requires-clause-rules c =
    subst (AreRules c.args.language.now.language.grammar) (sym c.deref.ensures.value) c.requires.reductions.rules

pub returns-then-place-len-clause-reductions : goal.returns-then-place-len-clause-reductions
returns-then-place-len-clause-reductions c =
    let g = c.args.language.now.language.grammar in
    let ts = c.args.language.now.tables in
    let ps = c.follow-chain.new.productions.items in
    record {
      rules = c.requires.reductions.rules;
      chains = chains_set g ts ps c.args.reductions.now.chains.items c.args.place c.follow-chain.result c.follow-chain.ensures.chain
          (chains_stay g ts c.args.reductions.now.productions.items ps c.args.reductions.now.chains.items c.follow-chain.ensures.begins
          c.requires.reductions.chains);
    }

pub returns-else-place-len-clause-reductions : goal.returns-else-place-len-clause-reductions
returns-else-place-len-clause-reductions c =
    let g = c.args.language.now.language.grammar in
    let ts = c.args.language.now.tables in
    record {
      rules = c.requires.reductions.rules;
      chains = chains_stay g ts c.args.reductions.now.productions.items c.follow-chain.new.productions.items
          c.args.reductions.now.chains.items c.follow-chain.ensures.begins c.requires.reductions.chains;
    }
