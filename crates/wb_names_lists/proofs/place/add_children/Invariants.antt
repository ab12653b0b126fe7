use Rattle.std.proofs.Common.{◌≡◌, ◌++◌, take}
use Rattle.std.specs.List.{flat_map}
use Rattle.wb_syntax.specs.declared.production.Child.{Child}
use Rattle.wb_names_theory.specs.WrongKind.{misplaced_child}
use Rattle.wb_names_lists.proofs.place.add_children.Given as goal

abbrev pub invariant-children : goal.invariant-children
invariant-children l = l.out.items ≡ l.fn.out.items ++ flat_map (λ (c : Child). misplaced_child l.role c.label c.kind) (take l.child-index l.children)
