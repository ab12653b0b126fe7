use Rattle.std.proofs.Common.{take}
use Rattle.std.specs.List.{flat_map}
use Rattle.wb_syntax_resolved.specs.declared.production.Child.{Child}
use Rattle.wb_names_rows.specs.Inner.Marks.{Marks, child_numbers}
use Rattle.wb_names_rows.proofs.in_grammar.mark_children.Given as goal

abbrev pub invariant-children : goal.invariant-children
invariant-children l = Marks (flat_map (λ (c : Child). child_numbers c.kind) (take l.child-index l.children)) l.fn.flags.items l.flags.items
