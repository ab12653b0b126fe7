use Rattle.std.proofs.Common.{◌≡◌, take, All}
use Rattle.wb_items.specs.Lookaheads.{items_in}
use Rattle.wb_determinism.specs.Inner.Contexts.{host_of}
use Rattle.wb_determinism.specs.Inner.Envelopes.{IsEnvelopeSet}
use Rattle.wb_determinism.proofs.envelope.row_by.Given as goal

abbrev pub invariant-items : goal.invariant-items
invariant-items l =
    (items_in l.row.items ≡ take l.item-index l.closure) × All (IsEnvelopeSet (host_of l.context) l.own) l.row.items
