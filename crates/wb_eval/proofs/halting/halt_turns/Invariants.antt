use Rattle.std.specs.Prelude.{◌≡◌, ◌≤◌}
use Rattle.wb_eval.specs.Inner.Answering.{turns_left}
use Rattle.wb_eval.specs.Inner.Works.{IsExtended, IsTurn}
use Rattle.wb_eval.proofs.halting.halt_turns.Given as goal

abbrev pub invariant-turns : goal.invariant-turns
invariant-turns g l = record {
  turn : IsTurn l.context.definitions.attributes.now
      (record { signatures = l.context.operations.now.signatures; meaning = g.M.Meaning.meaning })
      l.store l.evaluation.machine l.evaluation.values.items l.frame;
  root : l.evaluation.machine.root ≡ l.initial.evaluation.machine.root;
  attribute : l.evaluation.machine.attribute ≡ l.initial.evaluation.machine.attribute;
  within : l.evaluation.machine.entered ≤ l.context.steps;
  store : IsExtended l.initial.store l.store;
}

abbrev pub decreases-turns : goal.decreases-turns
decreases-turns g l = turns_left l.context.steps l.evaluation.machine
