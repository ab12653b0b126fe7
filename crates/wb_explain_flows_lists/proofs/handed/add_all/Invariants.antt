use Rattle.wb_explain_flows_lists.specs.Inner.Spots.{KeepsLacking}
use Rattle.wb_explain_flows_lists.proofs.handed.add_all.Given as goal

abbrev pub invariant-productions : goal.invariant-productions
invariant-productions l = KeepsLacking l.scope.attributes.now l.fn.found.items l.found.items
