use Rattle.wb_compose_theory.proofs.LookaheadLemmas.{host_lookaheads, home_of}
use Rattle.wb_compose_theory.proofs.laws.cases_law.Goals as goal

pub returns : goal.returns
returns c = record { of_host = host_lookaheads; of_extension = λ w n ok. home_of ok }
