use Rattle.wb_syntax.specs.declared.production.Child.{Child}
use Rattle.wb_names_theory.specs.WrongKind.{misplaced_child}
use Rattle.wb_names_lists.proofs.ListLemmas.{flat_map_next, flat_map_all}
use Rattle.wb_names_lists.proofs.place.add_children.Goals as goal

pub children-preserved : goal.children-preserved
children-preserved c =
    flat_map_next (λ (x : Child). misplaced_child c.args.role x.label x.kind)
    c.args.children.now c.children.child-index c.child-item.result c.args.out.now.items c.children.out.items c.add_child.new.out.items
    c.children.invariant c.children-test.true c.child-item.is c.in_ok-add_child.ensures

pub returns : goal.returns
returns c =
    flat_map_all (λ (x : Child). misplaced_child c.args.role x.label x.kind)
    c.args.children.now c.children.child-index c.args.out.now.items c.children.out.items c.children.invariant c.children-test.false
