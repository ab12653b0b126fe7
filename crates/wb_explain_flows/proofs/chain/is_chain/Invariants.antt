use Rattle.std.proofs.Common.{take}
use Rattle.wb_explain_flows.specs.Chains.{IsChain, IsNeeded}
use Rattle.wb_flow.proofs.EachLemmas.{EachBefore}
use Rattle.wb_flow.specs.Graphs.{IsFlowGraph}
use Rattle.wb_syntax_resolved.specs.declared.attribution.AttributionParts.{AttributionParts}
use Rattle.wb_syntax_resolved.specs.declared.production.Production.{Production}
use Rattle.wb_explain_flows.proofs.chain.is_chain.Given as goal

abbrev pub invariant-steps : goal.invariant-steps
invariant-steps l =
    IsChain l.fn.from l.at (take l.step-index l.steps)
    × ((a : AttributionParts) (p : Production) → IsFlowGraph a p l.graph → EachBefore l.steps l.step-index (IsNeeded a p))
