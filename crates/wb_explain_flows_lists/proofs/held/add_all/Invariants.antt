use Rattle.wb_explain_flows_lists.specs.Inner.Spots.{KeepsUnheld}
use Rattle.wb_explain_flows_lists.proofs.held.add_all.Given as goal

abbrev pub invariant-occurrences : goal.invariant-occurrences
invariant-occurrences l = KeepsUnheld l.scope.attributes.now l.fn.found.items l.found.items
