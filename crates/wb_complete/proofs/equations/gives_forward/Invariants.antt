use Rattle.std.proofs.Common.{◌≡◌, false}
use Rattle.wb_flow.proofs.EachLemmas.{EachBefore}
use Rattle.wb_complete.specs.Inner.ForwardTests.{is_forward}
use Rattle.wb_syntax_resolved.specs.declared.equation.Equation.{Equation}
use Rattle.wb_complete.proofs.equations.gives_forward.Given as goal

abbrev pub invariant-equations : goal.invariant-equations
invariant-equations l = EachBefore l.equation-items l.equation-index (λ (e : Equation). is_forward e.target ≡ false)
