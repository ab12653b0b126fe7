use Rattle.std.proofs.Common.{List, subst, ◌∙◌, Contains}
use Rattle.std.specs.Prelude.{◌↔◌}
use Rattle.wb_flow.specs.declared.arrows.Arrow.{Arrow}
use Rattle.wb_flow.specs.Inner.Adding.{SomeOf}
use Rattle.wb_flow.specs.Inner.Arrows.{IsNumbered}
use Rattle.wb_flow.proofs.GraphLemmas.{ends_contained, flow_graph, vertices_are, graph_is}
use Rattle.wb_flow.proofs.graph.graph_over.Goals as goal

pub edges_of-requires : goal.edges_of-requires
edges_of-requires c r has =
    ends_contained c.args.scope.now.attributes.now c.requires.attribution c.args.production.now c.requires.listed c.args.trees.now
    c.requires.trees c.args.vertices.now c.requires.vertices r
    ((c.in_ok-arrows.ensures r).0 (subst (λ (z : List Arrow). Contains z r) c.deref.ensures.value has))

pub returns : goal.returns
returns c =
    graph_is c.args.scope.now.attributes.now c.args.production.now c.args.vertices.now c.in_ok-edges.edges.items c.from_vec.result
    c.from_vec-2.result (c.from_vec.ensures ∙ c.in_ok-vertices.ensures.items ∙ c.as_slice.ensures.vertices) c.from_vec-2.ensures
    (flow_graph c.args.scope.now.attributes.now c.args.production.now c.args.vertices.now c.in_ok-edges.edges.items c.in_ok-arrows.arrows.items
    c.as_slice.ensures.different
    (vertices_are c.args.scope.now.attributes.now c.requires.attribution c.args.production.now c.args.trees.now c.requires.trees
    c.args.vertices.now c.requires.vertices)
    c.in_ok-arrows.ensures
    (λ e. subst (λ (z : List Arrow). Contains c.in_ok-edges.edges.items e ↔ SomeOf z (IsNumbered c.args.vertices.now) e) c.deref.ensures.value
    (c.in_ok-edges.ensures e)))
