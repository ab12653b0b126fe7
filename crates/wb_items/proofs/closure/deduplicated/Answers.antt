use Rattle.std.proofs.Common.{arith}
use Rattle.wb_items.proofs.OrderLemmas.{strict_start, strict_done}
use Rattle.wb_items.proofs.closure.deduplicated.Goals as goal

pub places-init : goal.places-init
places-init c = rw c.in_ok-list.ensures.items (strict_start c.args.items.now)

pub returns-clause-same : goal.returns-clause-same
returns-clause-same c = rw c.from_vec.ensures
    (strict_done c.args.items.now c.places.list.items c.places.place (omega arith) c.places.invariant)
