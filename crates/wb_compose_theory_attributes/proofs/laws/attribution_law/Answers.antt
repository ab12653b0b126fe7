use Rattle.wb_compose_theory_attributes.proofs.UnitedLemmas.{united_attribution}
use Rattle.wb_compose_theory_attributes.proofs.laws.attribution_law.Goals as goal

pub returns : goal.returns
returns c = united_attribution
