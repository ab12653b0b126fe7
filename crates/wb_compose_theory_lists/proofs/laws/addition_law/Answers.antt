use Rattle.wb_compose_theory_lists.proofs.LawLemmas.{is_host_with}
use Rattle.wb_compose_theory_lists.proofs.laws.addition_law.Goals as goal

pub returns : goal.returns
returns c = is_host_with
