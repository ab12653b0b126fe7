use Rattle.wb_determinism_theory.proofs.OverLemmas.{over_exact, over_keeps}
use Rattle.wb_determinism_theory.proofs.laws.over_law.Goals as goal

pub returns-clause-exact : goal.returns-clause-exact
returns-clause-exact c = λ g k up phi own count prefix_of host_of set beside live_g live_k states spread.
    over_exact beside live_g live_k states spread

pub returns-clause-rule : goal.returns-clause-rule
returns-clause-rule c = λ g k up phi own count prefix_of host_of set beside live_g live_k states spread.
    over_keeps beside live_g live_k states spread
