use Rattle.wb_compose_theory.proofs.ComposedLemmas.{composable_apart, composed_fit, composed_no_conflict}
use Rattle.wb_compose_theory.proofs.laws.composed_law.Goals as goal

pub returns : goal.returns
returns c = record {
  certified = composable_apart;
  deterministic = λ w n c is. record { fit = composed_fit w n c is; no_conflict = composed_no_conflict w n c is };
}
