use Rattle.std.proofs.Common.{◌∙◌, not, ap}
use Rattle.wb_marking.proofs.PlaceLemmas as p
use Rattle.wb_marking.proofs.bridges.is_no_bridge.Goals as goal

pub returns-clause-lacks : goal.returns-clause-lacks
returns-clause-lacks c none =
    p.no_bridge c.args.scope.now.parts.now c.args.scope.now.grammar.now c.args.number (c.is_on_host.ensures.0 c.if-not-is_on_host.false)
    c.beginning.result (c.is_none.ensures ∙ ap not none) c.beginning.ensures.none
