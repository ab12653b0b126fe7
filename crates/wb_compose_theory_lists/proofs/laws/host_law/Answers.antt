use Rattle.wb_compose_theory_lists.proofs.LawLemmas.{is_of_rows}
use Rattle.wb_compose_theory_lists.proofs.laws.host_law.Goals as goal

pub returns : goal.returns
returns c = is_of_rows
