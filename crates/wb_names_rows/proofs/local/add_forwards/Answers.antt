use Rattle.std.proofs.Common.{sym, subst}
use Rattle.wb_syntax.specs.declared.expression.Equation.{Equation}
use Rattle.wb_names_numbers_theory.specs.Written.{makes_forward}
use Rattle.wb_names_rows.specs.Nodes.{IsFoundForward, EquationIsThere}
use Rattle.wb_names_rows.proofs.AddsLemmas.{adds_more, adds_all}
use Rattle.wb_names_rows.proofs.local.add_forwards.Goals as goal

pub loop-equation-preserved : goal.loop-equation-preserved
loop-equation-preserved c =
    adds_more (λ (q : Equation). makes_forward q.target) (IsFoundForward c.args.scope.now c.args.labels.now) c.args.equations.now
    c.loop-equation.equation-index c.equation-item.result c.args.made.now.items c.loop-equation.made.items c.add_forward.new.made.items
    c.loop-equation.invariant c.loop-equation-test.true c.equation-item.is c.in_ok-add_forward.ensures

pub add_forward-requires : goal.add_forward-requires
add_forward-requires c =
    subst (EquationIsThere c.args.scope.now c.args.labels.now) (sym c.equation-item.is)
    (c.requires c.loop-equation.equation-index c.equation-item.result c.loop-equation-test.true)

pub returns : goal.returns
returns c =
    adds_all (λ (q : Equation). makes_forward q.target) (IsFoundForward c.args.scope.now c.args.labels.now) c.args.equations.now
    c.loop-equation.equation-index c.args.made.now.items c.loop-equation.made.items c.loop-equation.invariant c.loop-equation-test.false
