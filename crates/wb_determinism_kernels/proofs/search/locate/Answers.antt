use Rattle.std.proofs.Common.{◌+◌, ◌-◌, ◌/◌, arith}
use Rattle.wb_items.proofs.IndexLemmas.{search_above, search_below}
use Rattle.wb_determinism_kernels.proofs.search.locate.Goals as goal

pub halves-preserved-in-Less : goal.halves-preserved-in-Less
halves-preserved-in-Less c =
    search_above c.args.kernels.now c.args.order.now c.args.items.now c.halves.low c.halves.high
    (c.halves.low + (c.halves.high - c.halves.low) / 2) c.number_at-number.result c.items_at.result.now
    c.requires.index c.number_at-number.ensures c.items_at.ensures c.halves.invariant (omega arith) c.in-Less.ensures

pub halves-preserved : goal.halves-preserved
halves-preserved c =
    search_below c.args.kernels.now c.args.order.now c.args.items.now c.halves.low c.halves.high
    (c.halves.low + (c.halves.high - c.halves.low) / 2) c.number_at-number.result c.items_at.result.now
    c.requires.index c.number_at-number.ensures c.items_at.ensures c.halves.invariant (omega arith) (omega arith) c.in-Greater.ensures
