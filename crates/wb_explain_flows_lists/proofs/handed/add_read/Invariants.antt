use Rattle.wb_explain_flows_lists.specs.Inner.Spots.{KeepsLacking}
use Rattle.wb_explain_flows_lists.proofs.handed.add_read.Given as goal

abbrev pub invariant-inherited : goal.invariant-inherited
invariant-inherited l = KeepsLacking l.spot.scope.now.attributes.now l.fn.found.items l.found.items
