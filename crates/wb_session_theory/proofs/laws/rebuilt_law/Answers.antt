use Rattle.std.proofs.Common.{refl}
use Rattle.wb_session_theory.proofs.FrameLemmas.{same_without}
use Rattle.wb_session_theory.proofs.SpineLemmas.{spine_depth, spine_nodes}
use Rattle.wb_session_theory.proofs.ValueLemmas.{filled_values}
use Rattle.wb_session_theory.proofs.laws.rebuilt_law.Goals as goal

pub returns-clause-stays : goal.returns-clause-stays
returns-clause-stays c frame none stack other = same_without frame none stack other

pub returns-clause-few : goal.returns-clause-few
returns-clause-few c n frame spine stack = spine_depth stack spine

pub returns-clause-values : goal.returns-clause-values
returns-clause-values c frame stack = filled_values frame stack

pub returns-clause-nodes : goal.returns-clause-nodes
returns-clause-nodes c frame stack spine = spine_nodes stack refl spine
