use Rattle.wb_compose_theory_worlds.proofs.SightLemmas.{unique}
use Rattle.wb_compose_theory_worlds.proofs.StayLemmas.{rule_unique}
use Rattle.wb_compose_theory_worlds.proofs.laws.once_law.Goals as goal

pub returns : goal.returns
returns c = λ w named. record { occurrence = unique w named; rule = rule_unique w named }
