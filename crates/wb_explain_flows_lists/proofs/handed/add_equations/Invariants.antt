use Rattle.wb_explain_flows_lists.specs.Inner.Spots.{KeepsLacking}
use Rattle.wb_explain_flows_lists.proofs.handed.add_equations.Given as goal

abbrev pub invariant-equations : goal.invariant-equations
invariant-equations l = KeepsLacking l.spot.scope.now.attributes.now l.fn.found.items l.found.items
