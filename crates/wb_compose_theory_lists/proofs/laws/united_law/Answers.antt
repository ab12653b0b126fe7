use Rattle.wb_compose_theory_lists.proofs.UnionLemmas.{is_united}
use Rattle.wb_compose_theory_lists.proofs.laws.united_law.Goals as goal

pub returns : goal.returns
returns c = is_united
