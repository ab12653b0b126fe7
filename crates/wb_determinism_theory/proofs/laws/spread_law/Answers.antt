use Rattle.wb_determinism_theory.proofs.SpreadLemmas.{spread_exact, spread_keeps}
use Rattle.wb_determinism_theory.proofs.laws.spread_law.Goals as goal

pub returns-clause-exact : goal.returns-clause-exact
returns-clause-exact c = λ w e own count prefix_of set ready r once spread.
    spread_exact ready.is_marked ready.host ready.both_parts r once spread

pub returns-clause-rule : goal.returns-clause-rule
returns-clause-rule c = λ w e own count prefix_of set ready r once spread.
    spread_keeps ready.is_marked ready.host ready.both_parts r once spread
