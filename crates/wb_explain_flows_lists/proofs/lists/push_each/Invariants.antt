use Rattle.std.proofs.Common.{take}
use Rattle.wb_explain_flows_lists.specs.Lists.{HasTexts}
use Rattle.wb_explain_flows_lists.proofs.lists.push_each.Given as goal

abbrev pub invariant-found : goal.invariant-found
invariant-found g l =
    HasTexts (g.T.Listed.IsText l.told.scope.now.attributes.now) (take l.one-index l.found) l.initial.out.items l.out.items
