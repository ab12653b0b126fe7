use Rattle.std.proofs.lemmas.Result.{IfOk-weaker}
use Rattle.wb_flow_theory.specs.Modular.{IsProduction}
use Rattle.wb_flow.specs.Graphs.{IsFlowGraph}
use Rattle.wb_flow.proofs.GraphLemmas.{production_listed, graph_at}
use Rattle.wb_syntax_resolved.specs.declared.production.Production.{Production}
use Rattle.wb_flow.proofs.graph.production_graph.Goals as goal

pub graph_of-requires-clause-index : goal.graph_of-requires-clause-index
graph_of-requires-clause-index c = c.in_ok-index.ensures

pub graph_of-requires-clause-listed : goal.graph_of-requires-clause-listed
graph_of-requires-clause-listed c =
    production_listed c.args.attributes.now c.parts-parts.result.now c.parts-parts.ensures.parts c.as_slice.result.now c.as_slice.ensures
    c.args.production c.index-as_slice-production.result c.requires c.index-as_slice-production.is

pub returns : goal.returns
returns c =
    IfOk-weaker c.graph_of.result (IsFlowGraph c.parts-parts.result.now c.index-as_slice-production.result)
    (λ graph. (p : Production) → IsProduction c.args.attributes.now c.args.production p → IsFlowGraph c.args.attributes.now p graph)
    (graph_at c.args.attributes.now c.parts-parts.result.now c.parts-parts.ensures.parts c.as_slice.result.now c.as_slice.ensures
    c.args.production c.index-as_slice-production.result c.requires c.index-as_slice-production.is) c.graph_of.ensures
