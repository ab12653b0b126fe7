use Rattle.wb_compose_attributes.specs.NewNumbers.{map_of}
use Rattle.wb_names_rows.proofs.ListLemmas.{map_all, map_next}
use Rattle.wb_compose_theory_attributes.specs.Rows.{new_equation}
use Rattle.wb_compose_attributes.proofs.production.add_equations.Goals as goal

pub rows-preserved : goal.rows-preserved
rows-preserved c =
    let n = c.args.numbers.now in
    map_next (new_equation (map_of n) 0 n.owner) c.args.rows.now c.rows.row-index c.row-item.result c.in_ok-next.next c.args.made.now.items
    c.rows.made.items c.push.new.list.items
    c.rows.invariant c.rows-test.true c.row-item.is c.in_ok-next.ensures c.in_ok-push.ensures.ok

pub returns : goal.returns
returns c =
    let n = c.args.numbers.now in
    map_all (new_equation (map_of n) 0 n.owner) c.args.rows.now c.rows.row-index c.args.made.now.items c.rows.made.items c.rows.invariant
    c.rows-test.false
