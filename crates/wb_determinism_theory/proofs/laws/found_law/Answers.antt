use Rattle.wb_determinism_theory.proofs.FoundLemmas.{found_all}
use Rattle.wb_determinism_theory.proofs.laws.found_law.Goals as goal

pub returns : goal.returns
returns c = λ g k up phi own count prefix_of host_of beside live found prefix viable. found_all beside live found (viable.2)
