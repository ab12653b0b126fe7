use Rattle.wb_compose_theory_attributes.proofs.UnitedKindLemmas.{united_kinds}
use Rattle.wb_compose_theory_attributes.proofs.laws.kinds_law.Goals as goal

pub returns : goal.returns
returns c = united_kinds
