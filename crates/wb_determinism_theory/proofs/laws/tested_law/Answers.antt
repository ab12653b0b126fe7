use Rattle.wb_determinism_theory.proofs.TestedLemmas.{tested_host, tested_keeps, tested_new}
use Rattle.wb_determinism_theory.proofs.laws.tested_law.Goals as goal

pub returns-clause-host : goal.returns-clause-host
returns-clause-host c = λ g k up phi own count prefix_of host_of set beside live_g live_k states first tested.
    tested_host beside live_g live_k states first tested

pub returns-clause-new : goal.returns-clause-new
returns-clause-new c = λ g k up phi own count prefix_of host_of set beside live_g live_k states first tested.
    tested_new beside live_g live_k states first tested

pub returns-clause-rule : goal.returns-clause-rule
returns-clause-rule c = λ g k up phi own count prefix_of host_of set beside live_g live_k states first tested.
    tested_keeps beside live_g live_k states first tested
