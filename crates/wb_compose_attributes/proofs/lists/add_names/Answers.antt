use Rattle.wb_names_rows.proofs.ListLemmas.{map_all, map_next}
use Rattle.wb_compose_attributes.specs.declared.placed.Placed.{Placed}
use Rattle.wb_compose_attributes.proofs.lists.add_names.Goals as goal

pub placed-preserved : goal.placed-preserved
placed-preserved c =
    map_next (λ (y : Placed). y.addition.name.now) c.args.placed.now c.placed.extension-index c.extension-item.result c.in_ok-name.name
    c.args.made.now.items c.placed.made.items c.push.new.list.items c.placed.invariant c.placed-test.true c.extension-item.is
    c.in_ok-name.ensures.ok c.in_ok-push.ensures.ok

pub returns : goal.returns
returns c =
    map_all (λ (y : Placed). y.addition.name.now) c.args.placed.now c.placed.extension-index c.args.made.now.items c.placed.made.items
    c.placed.invariant c.placed-test.false
