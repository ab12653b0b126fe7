use Rattle.wb_compose_theory_worlds.proofs.NamedLemmas.{is_composed}
use Rattle.wb_compose_theory_worlds.proofs.laws.composition_law.Goals as goal

pub returns : goal.returns
returns c = is_composed
