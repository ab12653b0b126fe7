use Rattle.std.proofs.Common.{[]}
use Rattle.wb_syntax_resolved.specs.declared.production.Production.{Production}
use Rattle.wb_names_rows.proofs.ListLemmas.{map_all, map_next}
use Rattle.wb_compose_attributes.specs.Inner.Written.{production_by}
use Rattle.wb_compose_attributes.proofs.productions.add_own.Goals as goal

pub rows-preserved : goal.rows-preserved
rows-preserved c =
    let n = c.args.numbers.now in
    map_next (λ (row : Production). production_by n row []) c.args.rows.now c.rows.row-index c.row-item.result c.in_ok-next.next
    c.args.made.now.items c.rows.made.items c.push.new.list.items
    c.rows.invariant c.rows-test.true c.row-item.is c.in_ok-next.ensures c.in_ok-push.ensures.ok

pub returns : goal.returns
returns c =
    let n = c.args.numbers.now in
    map_all (λ (row : Production). production_by n row []) c.args.rows.now c.rows.row-index c.args.made.now.items c.rows.made.items
    c.rows.invariant c.rows-test.false
