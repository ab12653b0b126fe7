-- Vertices and numbered edges are the flow graph.
use Rattle.std.proofs.Common.{◌≡◌, ◌<◌, ◌∙◌, ◌⊎◌, inl, inr, [], ℕ, List, Some, length, sym, ap, subst, get_or, slice_get, Contains}
use Rattle.std.specs.Prelude.{◌↔◌}
use Rattle.std.proofs.lemmas.Option.{slice_get_within, slice_get-get_or}
use Rattle.wb_base.specs.Different.{Differ}
use Rattle.wb_graph.specs.Graphs.{IsEdgeBelow}
use Rattle.wb_lemmas.proofs.Elements.{all_contained, all_from_contained}
use Rattle.wb_lemmas.proofs.Members.{contains_at}
use Rattle.wb_lemmas.proofs.Places.{at_once}
use Rattle.wb_flow_theory.specs.Flow.{IsVertex}
use Rattle.wb_flow_theory.specs.Modular.{IsProduction}
use Rattle.wb_flow_theory.proofs.EdgeLemmas.{edge_from, edge_to}
use Rattle.wb_flow.specs.declared.arrows.Arrow.{Arrow}
use Rattle.wb_flow.specs.declared.positions.TreeAt.{TreeAt}
use Rattle.wb_flow.specs.declared.vertex.FlowGraph.{FlowGraph}
use Rattle.wb_flow.specs.declared.vertex.Vertex.{Vertex}
use Rattle.wb_flow.specs.Graphs.{IsNeededBy, IsFlowGraph}
use Rattle.wb_flow.specs.Inner.Adding.{SomeOf}
use Rattle.wb_flow.specs.Adding.{Adds}
use Rattle.wb_flow.specs.Inner.Arrows.{IsArrow, IsNumbered, IsRuleArrow, IsBelowArrow, IsLeftCopyArrow}
use Rattle.wb_flow.specs.Inner.Positions.{HasTree, IsVertexOf}
use Rattle.wb_flow.specs.Vertices.{vertex_of}
use Rattle.wb_flow.proofs.AddingLemmas.{adds_as, adds_both, adds_to_nothing, read_item}
use Rattle.wb_flow.proofs.ArrowLemmas.{arrows_edges}
use Rattle.wb_flow.proofs.VertexLemmas.{trees_vertices}
use Rattle.wb_syntax_resolved.specs.declared.attribution.AttributionParts.{AttributionParts}
use Rattle.wb_syntax_resolved.specs.declared.production.Production.{Production}
use Rattle.wb_syntax_resolved.specs.Attribution.{IsAttribution}
use Rattle.wb_syntax_resolved.specs.Named.{IsNamedProduction}

-- one edge more has the places of an arrow's ends
pub numbered_one : (vertices : List Vertex) → Differ vertices → (arrow : Arrow) (i j : ℕ) → slice_get vertices i ≡ Some arrow.from
    → slice_get vertices j ≡ Some arrow.to → (e : ℕ × ℕ) → (e ≡ (i, j)) ↔ IsNumbered vertices arrow e
numbered_one vertices differ arrow i j from to (k, l) = (
  (λ same. subst (IsNumbered vertices arrow) (sym same) (from, to)),
  (λ (at, there). ap (λ z. (z, l)) (differ arrow.from k i at from) ∙ ap (λ z. (i, z)) (differ arrow.to l j there to)),
)

pub adds_numbered : (xs ys : List (ℕ × ℕ)) (vertices : List Vertex) → Differ vertices → (arrow : Arrow) (i j : ℕ)
    → slice_get vertices i ≡ Some arrow.from → slice_get vertices j ≡ Some arrow.to → Adds xs ys (λ e. e ≡ (i, j))
    → Adds xs ys (IsNumbered vertices arrow)
adds_numbered xs ys vertices differ arrow i j from to adds =
    adds_as xs ys (λ e. e ≡ (i, j)) (IsNumbered vertices arrow) (numbered_one vertices differ arrow i j from to) adds

module _ (a : AttributionParts) (is : IsAttribution a) (production : Production) (listed : Contains a.productions production) where
  abbrev named : IsNamedProduction a production
  named = all_contained (IsNamedProduction a) a.productions production is.named.productions listed

  -- both ends of each edge are among the vertices
  pub ends_contained : (trees : List TreeAt) → ((t : TreeAt) → Contains trees t ↔ HasTree production t) → (vertices : List Vertex)
      → ((v : Vertex) → Contains vertices v ↔ SomeOf trees (IsVertexOf a) v) → (arrow : Arrow) → IsArrow a production arrow
      → Contains vertices arrow.from × Contains vertices arrow.to
  ends_contained trees all vertices have arrow edge =
      let from = edge_from a production named is (vertex_of a arrow.from) (vertex_of a arrow.to) edge in
      let to = edge_to a production named is (vertex_of a arrow.from) (vertex_of a arrow.to) edge in (
        (have arrow.from).1 ((trees_vertices a is production trees all arrow.from).1 from),
        (have arrow.to).1 ((trees_vertices a is production trees all arrow.to).1 to),
      )

module _ (a : AttributionParts) (production : Production) (vertices : List Vertex) (edges : List (ℕ × ℕ)) (arrows : List Arrow)
    (differ : Differ vertices) (have : (v : Vertex) → Contains vertices v ↔ IsVertex a production (vertex_of a v))
    (are : (r : Arrow) → Contains arrows r ↔ IsArrow a production r)
    (number : (e : ℕ × ℕ) → Contains edges e ↔ SomeOf arrows (IsNumbered vertices) e) where
  edge_needs : (i j : ℕ) (u v : Vertex) → slice_get vertices i ≡ Some u → slice_get vertices j ≡ Some v
      → SomeOf arrows (IsNumbered vertices) (i, j) → IsNeededBy a production u v
  edge_needs i j u v at there (r, has, (from, to)) =
      subst (λ z. IsNeededBy a production z v) (at_once vertices i r.from u from at)
      (subst (IsNeededBy a production r.from) (at_once vertices j r.to v to there) ((are r).0 has))

  pub flow_graph : IsFlowGraph a production (record { vertices = vertices; edges = edges })
  flow_graph = record {
    once = differ;
    vertices = have;
    within = all_from_contained (IsEdgeBelow (length vertices)) edges (λ e has.
        let (r, listed, (from, to)) = (number e).0 has in
        (slice_get_within vertices e.0 r.from from, slice_get_within vertices e.1 r.to to));
    edges = λ i j u v at there. (
      (λ has. edge_needs i j u v at there ((number (i, j)).0 has)),
      (λ needs. (number (i, j)).1 (record { from = u; to = v }, (are (record { from = u; to = v })).1 needs, (at, there))),
    );
  }

-- the edges of all kinds, one after the other, are those of the graph
pub arrows_all : (a : AttributionParts) → IsAttribution a → (production : Production) → Contains a.productions production
    → (trees : List TreeAt) → ((t : TreeAt) → Contains trees t ↔ HasTree production t) → (xs ys zs : List Arrow)
    → Adds [] xs (IsRuleArrow production) → Adds xs ys (SomeOf trees (IsBelowArrow a)) → Adds ys zs (IsLeftCopyArrow a production)
    → (r : Arrow) → Contains zs r ↔ IsArrow a production r
arrows_all a is production listed trees all xs ys zs first second third r =
    let known = all_contained (IsNamedProduction a) a.productions production is.named.productions listed in
    let both = adds_both [] xs ys (IsRuleArrow production) (SomeOf trees (IsBelowArrow a)) first second in
    let three = adds_both [] ys zs (λ z. IsRuleArrow production z ⊎ SomeOf trees (IsBelowArrow a) z) (IsLeftCopyArrow a production) both third in
    let edges = arrows_edges a is production known trees all r in
    let found = adds_to_nothing zs (λ z. (IsRuleArrow production z ⊎ SomeOf trees (IsBelowArrow a) z) ⊎ IsLeftCopyArrow a production z) three r in
    ((λ has. edges.0 (to (found.0 has))), (λ edge. found.1 (from (edges.1 edge)))) where
      to : (IsRuleArrow production r ⊎ SomeOf trees (IsBelowArrow a) r) ⊎ IsLeftCopyArrow a production r
          → IsRuleArrow production r ⊎ (SomeOf trees (IsBelowArrow a) r ⊎ IsLeftCopyArrow a production r)
      to (inl (inl rule)) = inl rule
      to (inl (inr below)) = inr (inl below)
      to (inr copy) = inr (inr copy)

      from : IsRuleArrow production r ⊎ (SomeOf trees (IsBelowArrow a) r ⊎ IsLeftCopyArrow a production r)
          → (IsRuleArrow production r ⊎ SomeOf trees (IsBelowArrow a) r) ⊎ IsLeftCopyArrow a production r
      from (inl rule) = inl (inl rule)
      from (inr (inl below)) = inl (inr below)
      from (inr (inr copy)) = inr copy

-- the ends of an arrow that is read are among the vertices
pub ends_read : (vertices : List Vertex) (arrows : List Arrow)
    → ((r : Arrow) → Contains arrows r → Contains vertices r.from × Contains vertices r.to) → (i : ℕ) (d : Arrow) → i < length arrows
    → Contains vertices (get_or arrows i d).from × Contains vertices (get_or arrows i d).to
ends_read vertices arrows ends i d within = ends (get_or arrows i d) (contains_at arrows (get_or arrows i d) i (slice_get-get_or arrows i d within))

-- the vertices are those of the graph
pub vertices_are : (a : AttributionParts) → IsAttribution a → (production : Production) → (trees : List TreeAt)
    → ((t : TreeAt) → Contains trees t ↔ HasTree production t) → (vertices : List Vertex)
    → ((v : Vertex) → Contains vertices v ↔ SomeOf trees (IsVertexOf a) v) → (v : Vertex) → Contains vertices v ↔ IsVertex a production (vertex_of a v)
vertices_are a is production trees all vertices have v =
    let same = trees_vertices a is production trees all v in
    ((λ has. same.0 ((have v).0 has)), (λ vertex. (have v).1 (same.1 vertex)))

-- the same lists are the same graph
pub graph_is : (a : AttributionParts) (production : Production) (vertices : List Vertex) (edges : List (ℕ × ℕ)) (us : List Vertex)
    (es : List (ℕ × ℕ)) → us ≡ vertices → es ≡ edges → IsFlowGraph a production (record { vertices = vertices; edges = edges })
    → IsFlowGraph a production (record { vertices = us; edges = es })
graph_is a production vertices edges us es same equal graph =
    subst (λ z. IsFlowGraph a production (record { vertices = z; edges = es })) (sym same)
    (subst (λ z. IsFlowGraph a production (record { vertices = vertices; edges = z })) (sym equal) graph)

module _ (a b : AttributionParts) (equal : b ≡ a) (slice : List Production) (same : slice ≡ b.productions) (number : ℕ)
    (production : Production)
    (within : number < length a.productions) (read : production ≡ get_or slice number production) where
  -- what is read at a place is the production of this number
  production_at : IsProduction a number production
  production_at =
      let e : slice ≡ a.productions = same ∙ ap (λ (z : AttributionParts). z.productions) equal in
      subst (λ (z : List Production). slice_get z number ≡ Some production) e
      (read_item slice number production (subst (λ (z : List Production). number < length z) (sym e) within) read)

  pub production_listed : Contains b.productions production
  production_listed =
      subst (λ (z : AttributionParts). Contains z.productions production) (sym equal)
      (contains_at a.productions production number production_at)

  -- so its graph is that of each production of this number
  pub graph_at : (graph : FlowGraph) → IsFlowGraph b production graph → (other : Production) → IsProduction a number other
      → IsFlowGraph a other graph
  graph_at graph is other at =
      subst (λ (z : AttributionParts). IsFlowGraph z other graph) equal
      (subst (λ (z : Production). IsFlowGraph b z graph) (at_once a.productions number production other production_at at) is)
