use Rattle.wb_syntax_resolved.specs.declared.equation.Equation.{Equation}
use Rattle.wb_names_theory.specs.declared.declaration.Declaration.TheVariants as d
use Rattle.wb_names_theory.specs.Declares.{target_attribute, target_site}
use Rattle.wb_names_lists.proofs.ListLemmas.{map_next, map_all}
use Rattle.wb_names_lists.proofs.base.add_equations.Goals as goal

pub equations-preserved : goal.equations-preserved
equations-preserved c =
    map_next (λ (e : Equation). d.Equation c.args.production.now.name (target_attribute c.args.base.now e.target)
    (target_site c.args.production.now e.target))
    c.args.equations.now c.equations.equation-index c.equation-item.result c.args.out.now.items c.equations.out.items
    c.add_target.new.out.items
    c.equations.invariant c.equations-test.true c.equation-item.is c.in_ok-add_target.ensures

pub returns : goal.returns
returns c =
    map_all (λ (e : Equation). d.Equation c.args.production.now.name (target_attribute c.args.base.now e.target)
    (target_site c.args.production.now e.target))
    c.args.equations.now c.equations.equation-index c.args.out.now.items c.equations.out.items c.equations.invariant c.equations-test.false
