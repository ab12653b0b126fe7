use Rattle.std.proofs.Common.{[]}
use Rattle.wb_syntax_resolved.specs.declared.production.Child.{Child}
use Rattle.wb_syntax_resolved.specs.Numbered.{value_kind}
use Rattle.wb_names_rows.proofs.ListLemmas.{map_next, map_all}
use Rattle.wb_names_rows.proofs.signatures.value_kinds.Goals as goal

pub children-preserved : goal.children-preserved
children-preserved c =
    map_next (λ (x : Child). value_kind x.kind) c.args.children.now c.children.child-index c.child-item.result c.value_kind.result []
    c.children.kinds.items c.push.new.list.items c.children.invariant c.children-test.true c.child-item.is c.value_kind.ensures
    c.in_ok-push.ensures.ok

pub returns : goal.returns
returns c =
    map_all (λ (x : Child). value_kind x.kind) c.args.children.now c.children.child-index [] c.children.kinds.items
    c.children.invariant c.children-test.false
