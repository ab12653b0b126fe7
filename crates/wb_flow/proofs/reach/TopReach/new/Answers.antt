use Rattle.std.proofs.Common.{List, Contains, subst}
use Rattle.std.specs.Prelude.{◌↔◌}
use Rattle.wb_flow.specs.Tops.{IsTop}
use Rattle.wb_flow.specs.declared.vertex.Vertex.{Vertex}
use Rattle.wb_flow.proofs.ReachLemmas.{components_in, below_in}
use Rattle.wb_flow.proofs.reach.TopReach.new.Goals as goal

pub strong_components-requires : goal.strong_components-requires
strong_components-requires c =
    below_in c.args.graph.now.vertices c.as_slice-vertices.result.now c.as_slice-vertices.ensures c.args.graph.now.edges
    c.as_slice-edges.result.now c.as_slice-edges.ensures c.requires

pub sets_of-requires-clause-components : goal.sets_of-requires-clause-components
sets_of-requires-clause-components c =
    components_in c.args.graph.now.vertices c.as_slice-vertices.result.now c.as_slice-vertices.ensures c.args.graph.now.edges
    c.as_slice-edges.result.now c.as_slice-edges.ensures c.in_ok-components.components c.in_ok-components.ensures

pub returns : goal.returns
returns c = record {
  tops = λ vertex. subst (λ (z : List Vertex). Contains c.in_ok-tops.tops vertex
      ↔ (Contains z vertex × IsTop c.args.scope.now.attributes.now vertex)) c.as_slice-vertices.ensures (c.in_ok-tops.ensures vertex);
  components = components_in c.args.graph.now.vertices c.as_slice-vertices.result.now c.as_slice-vertices.ensures c.args.graph.now.edges
      c.as_slice-edges.result.now c.as_slice-edges.ensures c.in_ok-components.components c.in_ok-components.ensures;
  sets = c.in_ok-sets.ensures;
}
