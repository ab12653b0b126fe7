use Rattle.std.specs.Prelude.{◌-◌, drop, length}
use Rattle.wb_eval.specs.Inner.Machines.{IsSteady}
use Rattle.wb_eval.specs.Inner.Works.{IsEvaluating, IsExtended}
use Rattle.wb_eval_rules.specs.Code.{instructions}
use Rattle.wb_eval.proofs.perform.evaluate_code.Given as goal

abbrev pub invariant-ops : goal.invariant-ops
invariant-ops g l = record {
  evaluating : IsEvaluating l.context.definitions.attributes.now
      (record { signatures = l.context.operations.now.signatures; meaning = g.M.Meaning.meaning })
      l.store l.evaluation.machine l.site (drop l.at (instructions l.code)) l.evaluation.values.items;
  same : IsSteady l.initial.evaluation.machine l.evaluation.machine;
  store : IsExtended l.initial.store l.store;
}

abbrev pub decreases-ops : goal.decreases-ops
decreases-ops g l = length l.code - l.at
