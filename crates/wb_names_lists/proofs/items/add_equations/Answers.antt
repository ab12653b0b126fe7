use Rattle.wb_syntax.specs.declared.expression.Equation.{Equation}
use Rattle.wb_names_theory.specs.Declares.{target_declaration}
use Rattle.wb_names_lists.proofs.ListLemmas.{map_next, map_all}
use Rattle.wb_names_lists.proofs.items.add_equations.Goals as goal

pub equations-preserved : goal.equations-preserved
equations-preserved c =
    map_next (λ (e : Equation). target_declaration c.args.production.now e.target)
    c.args.equations.now c.equations.equation-index c.equation-item.result c.args.out.now.items c.equations.out.items
    c.add_target.new.out.items
    c.equations.invariant c.equations-test.true c.equation-item.is c.in_ok-add_target.ensures

pub returns : goal.returns
returns c =
    map_all (λ (e : Equation). target_declaration c.args.production.now e.target)
    c.args.equations.now c.equations.equation-index c.args.out.now.items c.equations.out.items c.equations.invariant c.equations-test.false
