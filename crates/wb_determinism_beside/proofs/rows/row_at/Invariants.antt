use Rattle.std.proofs.Common.{◌≡◌, take, All}
use Rattle.wb_items.specs.Lookaheads.{items_in}
use Rattle.wb_determinism_beside.specs.Inner.Found.{both_in, prefix_at}
use Rattle.wb_determinism_beside.specs.Inner.Rows.{HasLooks}
use Rattle.wb_determinism_beside.proofs.rows.row_at.Given as goal

abbrev pub invariant-items : goal.invariant-items
invariant-items l =
    (items_in l.row.items ≡ take l.item-index l.closure) × All (HasLooks (both_in l.found) (prefix_at l.found l.place)) l.row.items
