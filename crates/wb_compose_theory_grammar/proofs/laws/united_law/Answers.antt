use Rattle.wb_compose_theory_grammar.proofs.UnitedLemmas.{is_united}
use Rattle.wb_compose_theory_grammar.proofs.laws.united_law.Goals as goal

pub returns : goal.returns
returns c = is_united
