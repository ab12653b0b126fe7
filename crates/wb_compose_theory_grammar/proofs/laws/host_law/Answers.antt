use Rattle.wb_compose_theory_grammar.proofs.UnitedLemmas.{keeps_host}
use Rattle.wb_compose_theory_grammar.proofs.laws.host_law.Goals as goal

pub returns : goal.returns
returns c = keeps_host
