use Rattle.wb_compose_theory_order.proofs.OrderLemmas.{apart_there, certified_there}
use Rattle.wb_compose_theory_order.proofs.laws.certified_law.Goals as goal

pub returns-clause-certified : goal.returns-clause-certified
returns-clause-certified c host extensible written others to from re ok = certified_there re ok

pub returns-clause-apart : goal.returns-clause-apart
returns-clause-apart c host extensible own written others to from re ok = apart_there re ok
