use Rattle.wb_compose_theory_attributes.proofs.UnitedLemmas.{united_attributes}
use Rattle.wb_compose_theory_attributes.proofs.laws.united_law.Goals as goal

pub returns : goal.returns
returns c = united_attributes
