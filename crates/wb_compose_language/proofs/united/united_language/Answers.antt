use Rattle.std.proofs.Common.{◌∙◌}
use Rattle.wb_compose_language.proofs.UnionLemmas.{extends_all, grammar_is}
use Rattle.wb_compose_language.proofs.united.united_language.Goals as goal

pub united_grammar-requires : goal.united_grammar-requires
united_grammar-requires c = extends_all c.args.lent.now c.requires

pub made_of-requires-clause-grammar : goal.made_of-requires-clause-grammar
made_of-requires-clause-grammar c = c.in_ok-grammar.ensures ∙ grammar_is c.args.lent.now
