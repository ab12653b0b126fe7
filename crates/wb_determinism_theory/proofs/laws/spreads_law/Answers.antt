use Rattle.wb_determinism_theory.proofs.SpreadsLemmas.{keeps_stays, spreads_exact, stays_keeps}
use Rattle.wb_determinism_theory.proofs.laws.spreads_law.Goals as goal

pub returns-clause-exact : goal.returns-clause-exact
returns-clause-exact c = λ g k up phi own count prefix_of host_of beside live_g live_k states first.
    spreads_exact beside live_g live_k states first

pub returns-clause-rule : goal.returns-clause-rule
returns-clause-rule c = λ g k up phi own count prefix_of host_of beside live_g live_k states first.
    stays_keeps beside live_g live_k states first

pub returns-clause-only : goal.returns-clause-only
returns-clause-only c = λ g k up phi own count prefix_of host_of beside live_g live_k states first.
    keeps_stays beside live_g live_k states first
