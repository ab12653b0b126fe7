use Rattle.std.proofs.Common.{◌≡◌, map, take}
use Rattle.wb_compose_theory_attributes.specs.Rows.{new_child}
use Rattle.wb_compose_attributes.specs.NewNumbers.{map_of}
use Rattle.wb_compose_attributes.proofs.children.new_children.Given as goal

abbrev pub invariant-children : goal.invariant-children
invariant-children l = l.made.items ≡ map (new_child (map_of l.numbers)) (take l.child-index l.children)
