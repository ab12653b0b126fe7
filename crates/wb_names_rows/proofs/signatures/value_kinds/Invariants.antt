use Rattle.std.proofs.Common.{◌≡◌, map, take}
use Rattle.wb_syntax_resolved.specs.declared.production.Child.{Child}
use Rattle.wb_syntax_resolved.specs.Numbered.{value_kind}
use Rattle.wb_names_rows.proofs.signatures.value_kinds.Given as goal

abbrev pub invariant-children : goal.invariant-children
invariant-children l = l.kinds.items ≡ map (λ (c : Child). value_kind c.kind) (take l.child-index l.children)
