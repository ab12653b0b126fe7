use Rattle.wb_compose_theory_worlds.proofs.UnionLemmas.{union_is_well_defined}
use Rattle.wb_compose_theory_worlds.proofs.laws.union_law.Goals as goal

pub returns : goal.returns
returns c = λ w named n apart. union_is_well_defined w n named apart
