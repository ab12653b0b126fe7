use Rattle.std.proofs.Common.{◌≤◌, List, length, subst, arith}
use Rattle.wb_flow.specs.Inner.Adding.{SomeOf}
use Rattle.wb_flow.specs.Adding.{Adds}
use Rattle.wb_flow.specs.Inner.Arrows.{IsEquationArrow, IsExpressionArrow}
use Rattle.wb_flow.proofs.AddingLemmas.{read_item, adds_start, adds_more, adds_all}
use Rattle.wb_syntax_resolved.specs.declared.equation.Equation.{Equation}
use Rattle.wb_flow.proofs.arrows.add_equations.Goals as goal

pub equations-init : goal.equations-init
equations-init c = adds_start c.args.arrows.now.items c.as_slice-equation-items.result.now IsEquationArrow

pub equations-preserved : goal.equations-preserved
equations-preserved c =
    adds_more c.args.arrows.now.items c.equations.arrows.items c.add_expression.new.arrows.items c.as_slice-equation-items.result.now
    IsEquationArrow c.equations.equation-index c.equation-item.result
    (read_item c.as_slice-equation-items.result.now c.equations.equation-index c.equation-item.result c.equations-test.true c.equation-item.is)
    c.equations.invariant
    (subst (λ z. Adds c.equations.arrows.items c.add_expression.new.arrows.items (IsExpressionArrow z c.equation-item.result.nodes))
    c.defined.ensures
    (subst (λ z. Adds c.equations.arrows.items c.add_expression.new.arrows.items (IsExpressionArrow c.defined.result z)) c.as_slice.ensures
    c.in_ok-add_expression.ensures))

pub returns : goal.returns
returns c =
    let items = c.as_slice-equation-items.result.now in
    let ended : length items ≤ c.equations.equation-index = omega arith in
    subst (λ (z : List Equation). Adds c.args.arrows.now.items c.equations.arrows.items (SomeOf z IsEquationArrow))
    c.as_slice-equation-items.ensures
    (adds_all c.args.arrows.now.items c.equations.arrows.items items IsEquationArrow c.equations.equation-index ended c.equations.invariant)
