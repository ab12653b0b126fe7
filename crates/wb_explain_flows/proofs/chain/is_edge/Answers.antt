use Rattle.std.proofs.Common.{refl}
use Rattle.wb_explain_flows.proofs.ChainLemmas.{edge_of}
use Rattle.wb_explain_flows.proofs.chain.is_edge.Goals as goal

pub returns-then-is_between : goal.returns-then-is_between
returns-then-is_between c = λ yes.
    edge_of c.args.graph.now c.args.from c.args.to c.as_slice-vertices.result.now c.as_slice-edge-items.result.now c.as_slice-vertices.ensures
    c.as_slice-edge-items.ensures c.edges.edge-index _ c.edges-test.true (c.if-is_between.ensures refl)
