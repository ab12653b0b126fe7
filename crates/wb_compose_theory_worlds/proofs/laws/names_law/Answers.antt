use Rattle.wb_compose_theory_worlds.proofs.NamedLemmas.{is_named}
use Rattle.wb_compose_theory_worlds.proofs.laws.names_law.Goals as goal

pub returns : goal.returns
returns c = is_named
