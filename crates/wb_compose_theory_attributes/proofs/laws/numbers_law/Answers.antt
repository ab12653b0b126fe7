use Rattle.wb_compose_theory_attributes.proofs.ExtensionLemmas.{stays_extension, stays_part}
use Rattle.wb_compose_theory_attributes.proofs.laws.numbers_law.Goals as goal

pub returns : goal.returns
returns c = record { part = stays_part; extension = stays_extension }
