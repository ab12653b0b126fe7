use Rattle.wb_flow_theory.specs.WellDefined.{DefinesBelow}
use Rattle.wb_flow.proofs.EachLemmas.{EachBefore}
use Rattle.wb_complete.proofs.check.without_inherited.Given as goal

abbrev pub invariant-productions : goal.invariant-productions
invariant-productions l = EachBefore l.productions l.number (DefinesBelow l.scope.attributes.now)
