use Rattle.wb_explain_flows_lists.specs.Inner.Spots.{KeepsLacking}
use Rattle.wb_explain_flows_lists.proofs.handed.add_locals.Given as goal

abbrev pub invariant-locals : goal.invariant-locals
invariant-locals l = KeepsLacking l.spot.scope.now.attributes.now l.fn.found.items l.found.items
