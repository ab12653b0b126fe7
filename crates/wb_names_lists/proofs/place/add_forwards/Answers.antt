use Rattle.wb_syntax.specs.declared.expression.Equation.{Equation}
use Rattle.wb_names_theory.specs.WrongKind.{misplaced_forward}
use Rattle.wb_names_lists.proofs.ListLemmas.{flat_map_next, flat_map_all}
use Rattle.wb_names_lists.proofs.place.add_forwards.Goals as goal

pub equations-preserved : goal.equations-preserved
equations-preserved c =
    flat_map_next (λ (e : Equation). misplaced_forward c.args.production.now e.target)
    c.args.equations.now c.equations.equation-index c.equation-item.result c.args.out.now.items c.equations.out.items
    c.add_forward.new.out.items
    c.equations.invariant c.equations-test.true c.equation-item.is c.in_ok-add_forward.ensures

pub returns : goal.returns
returns c =
    flat_map_all (λ (e : Equation). misplaced_forward c.args.production.now e.target)
    c.args.equations.now c.equations.equation-index c.args.out.now.items c.equations.out.items c.equations.invariant c.equations-test.false
