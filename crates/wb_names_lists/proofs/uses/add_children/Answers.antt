use Rattle.wb_syntax.specs.declared.production.Child.{Child}
use Rattle.wb_names_theory.specs.Uses.{kind_uses}
use Rattle.wb_names_lists.proofs.ListLemmas.{flat_map_next, flat_map_all}
use Rattle.wb_names_lists.proofs.uses.add_children.Goals as goal

pub children-preserved : goal.children-preserved
children-preserved c =
    flat_map_next (λ (x : Child). kind_uses c.args.wanted x.kind)
    c.args.children.now c.children.child-index c.child-item.result c.args.out.now.items c.children.out.items c.add_kind.new.out.items
    c.children.invariant c.children-test.true c.child-item.is c.in_ok-add_kind.ensures

pub returns : goal.returns
returns c =
    flat_map_all (λ (x : Child). kind_uses c.args.wanted x.kind)
    c.args.children.now c.children.child-index c.args.out.now.items c.children.out.items c.children.invariant c.children-test.false
