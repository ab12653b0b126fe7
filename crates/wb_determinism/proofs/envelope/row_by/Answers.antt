use Rattle.std.proofs.Common.{arith}
use Rattle.wb_determinism.specs.Inner.Contexts.{host_of}
use Rattle.wb_determinism.proofs.EnvelopeLemmas.{row_added, row_all}
use Rattle.wb_determinism.proofs.envelope.row_by.Goals as goal

pub items-preserved : goal.items-preserved
items-preserved c =
    row_added (host_of c.args.context.now) c.args.own.now c.args.closure.now c.items.item-index _ c.items.row.items
    c.add_entry.new.row.items c.items-test.true c.in_ok-add_entry.ensures c.items.invariant

pub returns : goal.returns
returns c =
    row_all (host_of c.args.context.now) c.args.own.now c.args.closure.now c.items.item-index c.items.row.items
    (omega (arith, c.items-test.false)) c.requires.closure c.items.invariant
