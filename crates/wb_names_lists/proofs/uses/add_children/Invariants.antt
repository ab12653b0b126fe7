use Rattle.std.proofs.Common.{◌≡◌, ◌++◌, take}
use Rattle.std.specs.List.{flat_map}
use Rattle.wb_syntax.specs.declared.production.Child.{Child}
use Rattle.wb_names_theory.specs.Uses.{kind_uses}
use Rattle.wb_names_lists.proofs.uses.add_children.Given as goal

abbrev pub invariant-children : goal.invariant-children
invariant-children l = l.out.items ≡ l.fn.out.items ++ flat_map (λ (c : Child). kind_uses l.wanted c.kind) (take l.child-index l.children)
