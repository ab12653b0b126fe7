use Rattle.std.proofs.Common.{◌≡◌, ◌++◌, map, take}
use Rattle.wb_syntax_resolved.specs.declared.production.Child.{Child}
use Rattle.wb_names_rows.proofs.labels.add_children.Given as goal

abbrev pub invariant-loop-child : goal.invariant-loop-child
invariant-loop-child l = l.labels ≡ l.fn.labels ++ map (λ (c : Child). c.label) (take l.child-index l.children)
