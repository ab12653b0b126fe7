use Rattle.wb_syntax_resolved.specs.declared.production.Child.{Child}
use Rattle.wb_names_rows.proofs.ListLemmas.{map_next, map_all}
use Rattle.wb_names_rows.proofs.labels.add_children.Goals as goal

pub loop-child-preserved : goal.loop-child-preserved
loop-child-preserved c =
    map_next (λ (x : Child). x.label) c.args.children.now c.loop-child.child-index c.child-item.result c.in_ok-copy.field-0
    c.args.labels.now c.loop-child.labels c.add.new.self c.loop-child.invariant c.loop-child-test.true c.child-item.is
    c.in_ok-copy.ensures.ok c.in_ok-add.ensures

pub returns : goal.returns
returns c =
    map_all (λ (x : Child). x.label) c.args.children.now c.loop-child.child-index c.args.labels.now c.loop-child.labels
    c.loop-child.invariant c.loop-child-test.false
