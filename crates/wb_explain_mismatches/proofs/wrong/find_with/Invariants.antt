use Rattle.std.proofs.Common.{◌≡◌, length}
use Rattle.wb_explain_mismatches.specs.Inner.Known.{AreKnown}
use Rattle.wb_explain_mismatches.proofs.wrong.find_with.Given as goal

abbrev pub invariant-nodes : goal.invariant-nodes
invariant-nodes l = (length l.kinds.items ≡ l.at)
    × AreKnown l.context.attributes.now l.context.operations.now l.context.production.now l.nodes l.kinds.items
