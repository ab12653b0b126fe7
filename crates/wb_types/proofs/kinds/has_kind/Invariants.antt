use Rattle.std.proofs.Common.{◌≡◌, length}
use Rattle.wb_types.specs.Inner.Nodes.{AreKept}
use Rattle.wb_types.proofs.kinds.has_kind.Given as goal

abbrev pub invariant-nodes : goal.invariant-nodes
invariant-nodes l = (length l.kinds.items ≡ l.place)
    × AreKept l.context.attributes.now l.context.operations.now l.context.production.now l.nodes l.kinds.items l.place
