use Rattle.wb_compose_theory_worlds.proofs.PartLemmas.{host_tested, extension_tested}
use Rattle.wb_compose_theory_worlds.proofs.laws.tested_law.Goals as goal

pub returns : goal.returns
returns c = record { host = host_tested; extension = extension_tested }
