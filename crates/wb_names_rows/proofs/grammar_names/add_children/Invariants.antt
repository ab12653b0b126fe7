use Rattle.std.proofs.Common.{◌≡◌, ◌++◌, take}
use Rattle.std.specs.List.{flat_map}
use Rattle.wb_syntax.specs.declared.production.Child.{Child}
use Rattle.wb_syntax.specs.Names.{kind_names}
use Rattle.wb_names_rows.proofs.grammar_names.add_children.Given as goal

abbrev pub invariant-children : goal.invariant-children
invariant-children l = l.names ≡ l.fn.names ++ flat_map (λ (c : Child). kind_names c.kind) (take l.child-index l.children)
