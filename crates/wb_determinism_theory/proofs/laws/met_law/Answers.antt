use Rattle.wb_determinism_theory.proofs.FoundLemmas.{met}
use Rattle.wb_determinism_theory.proofs.laws.met_law.Goals as goal

pub returns : goal.returns
returns c = λ g k up phi own count prefix_of host_of set beside kept live first exact. met beside kept live first exact
