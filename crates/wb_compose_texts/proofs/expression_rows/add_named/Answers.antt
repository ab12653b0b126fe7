use Rattle.std.proofs.Common.{Some}
use Rattle.wb_compose_texts.proofs.AddedLemmas.{begun, read_all, read_next}
use Rattle.wb_compose_texts.proofs.expression_rows.add_named.Goals as goal

pub rows-init : goal.rows-init
rows-init c = begun (Some c.args.name.now) c.args.from c.args.to c.args.rows.now c.args.expressions.now.items

pub rows-preserved : goal.rows-preserved
rows-preserved c =
    read_next (Some c.args.name.now) c.args.from c.args.to c.args.rows.now c.requires c.rows.number c.index-rows-number.result
    c.args.expressions.now.items c.rows.expressions.items c.push.new.list.items c.in_ok-made.made c.rows.auto.number c.rows-test.true
    c.index-rows-number.is c.rows.invariant c.in_ok-made.ensures c.in_ok-push.ensures.ok

pub returns : goal.returns
returns c =
    read_all (Some c.args.name.now) c.args.from c.args.to c.args.rows.now c.requires c.rows.number c.args.expressions.now.items
    c.rows.expressions.items c.rows-test.false c.rows.invariant
