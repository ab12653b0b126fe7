use Rattle.std.proofs.Common.{◌≡◌, ◌++◌, take, map}
use Rattle.wb_syntax_resolved.specs.declared.production.Child.{Child}
use Rattle.wb_names_theory.specs.declared.declaration.Declaration.TheVariants as d
use Rattle.wb_names_theory.specs.Declares.{base_labelled}
use Rattle.wb_names_lists.proofs.base.add_children.Given as goal

abbrev pub invariant-children : goal.invariant-children
invariant-children l = l.out.items ≡ l.fn.out.items ++ map (λ (c : Child). d.Label l.production c.label (base_labelled l.base c.kind)) (take l.child-index l.children)
