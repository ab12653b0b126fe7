use Rattle.std.proofs.Common.{◌≡◌, [], rules, subst}
use Rattle.wb_parser_states.specs.Rules.{AreRules}
use Rattle.wb_parser_states.proofs.ChainLemmas.{none_more}
use Rattle.wb_parser_states.proofs.reductions.reductions_of.Goals as goal

pub returns : goal.returns
returns c = record {
  rules = subst (λ g. AreRules g c.in_ok-rules.rules.items) c.grammar-2.ensures.grammar c.in_ok-rules.ensures;
  ends = λ place kept at. let e : c.new-ends.result.items ≡ [] = search rules in none_more c.new-ends.result.items place kept e at;
  codes = c.codes_of-codes.ensures c.args.language.now.language.grammar c.args.language.now.tables (search rules);
}
