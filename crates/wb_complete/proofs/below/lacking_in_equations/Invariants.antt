use Rattle.wb_flow.proofs.EachLemmas.{EachBefore}
use Rattle.wb_complete.specs.Inner.Tests.{DefinesReads}
use Rattle.wb_syntax_resolved.specs.declared.equation.Equation.{Equation}
use Rattle.wb_complete.proofs.below.lacking_in_equations.Given as goal

abbrev pub invariant-equations : goal.invariant-equations
invariant-equations l = EachBefore l.equation-items l.equation-index
    (λ (e : Equation). DefinesReads l.scope.attributes.now l.production e.nodes)
