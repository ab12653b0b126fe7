use Rattle.wb_flow_theory.specs.WellDefined.{DefinesTop}
use Rattle.wb_flow.proofs.EachLemmas.{EachBefore}
use Rattle.wb_complete.proofs.check.without_equation.Given as goal

abbrev pub invariant-productions : goal.invariant-productions
invariant-productions l = EachBefore l.productions l.number (DefinesTop l.scope.attributes.now)
