use Rattle.std.proofs.Common.{◌≡◌, ◌++◌, take, map}
use Rattle.wb_syntax_resolved.specs.declared.equation.Equation.{Equation}
use Rattle.wb_names_theory.specs.declared.declaration.Declaration.TheVariants as d
use Rattle.wb_names_theory.specs.Declares.{target_attribute, target_site}
use Rattle.wb_names_lists.proofs.base.add_equations.Given as goal

abbrev pub invariant-equations : goal.invariant-equations
invariant-equations l = l.out.items ≡ l.fn.out.items ++ map (λ (e : Equation). d.Equation l.production.name (target_attribute l.base e.target) (target_site l.production e.target)) (take l.equation-index l.equations)
