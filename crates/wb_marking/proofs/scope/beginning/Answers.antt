use Rattle.wb_marking.proofs.PlaceLemmas as p
use Rattle.wb_marking.proofs.scope.beginning.Goals as goal

pub returns-else-is_empty-clause-none : goal.returns-else-is_empty-clause-none
returns-else-is_empty-clause-none c =
    p.none_begins c.args.scope.now.parts.now c.args.scope.now.grammar.now c.args.number c.right-right.result.now
    c.right-right.ensures.right c.marker_of.result _ c.marker_of.ensures.none
