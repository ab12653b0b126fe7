use Rattle.std.proofs.Common.{◌≡◌}
use Rattle.wb_eval_rules.specs.Indexes.{IsIndexOf}
use Rattle.wb_eval_rules.specs.Inner.Found.{AreFound}
use Rattle.wb_eval_rules.proofs.equations.equations_of.Given as goal

abbrev pub invariant-equations : goal.invariant-equations
invariant-equations l = record {
  counted : l.number ≡ l.equation-index;
  found : AreFound l.made;
  index : IsIndexOf l.production.equations l.equation-index l.made;
}
