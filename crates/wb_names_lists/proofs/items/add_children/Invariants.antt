use Rattle.std.proofs.Common.{◌≡◌, ◌++◌, take, map}
use Rattle.wb_names_theory.specs.Declares.{child_declaration}
use Rattle.wb_names_lists.proofs.items.add_children.Given as goal

abbrev pub invariant-children : goal.invariant-children
invariant-children l = l.out.items ≡ l.fn.out.items ++ map (child_declaration l.production) (take l.child-index l.children)
