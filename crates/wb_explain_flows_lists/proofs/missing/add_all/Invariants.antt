use Rattle.wb_flow.specs.Inner.Adding.{SomeBelow}
use Rattle.wb_flow.specs.Adding.{Adds}
use Rattle.wb_flow_theory.specs.Modular.{IsProduction}
use Rattle.wb_explain_flows_lists.specs.Inner.Found.{IsMissingOf}
use Rattle.wb_syntax_resolved.specs.declared.production.Production.{Production}
use Rattle.wb_explain_flows_lists.proofs.missing.add_all.Given as goal

abbrev pub invariant-productions : goal.invariant-productions
invariant-productions l = Adds l.fn.found.items l.found.items (SomeBelow l.number
    (λ k m. (p : Production) × IsProduction l.scope.attributes.now k p × IsMissingOf l.scope.attributes.now k p m))
