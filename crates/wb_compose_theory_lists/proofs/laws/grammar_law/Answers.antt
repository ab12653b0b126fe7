use Rattle.wb_compose_theory_lists.proofs.GrammarLemmas.{has_union_grammar}
use Rattle.wb_compose_theory_lists.proofs.laws.grammar_law.Goals as goal

pub returns : goal.returns
returns c = has_union_grammar
