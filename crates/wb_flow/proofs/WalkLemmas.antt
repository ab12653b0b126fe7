-- Walks of a flow graph by places and by vertices.
use Rattle.std.proofs.Common.{◌≡◌, ◌<◌, ◌+◌, ◌-◌, ◌∙◌, ◌∷◌, ◌++◌, [], ◌⊎◌, inl, inr, ℕ, List, Vec, Global, Some, All, length, refl, sym, ap}
use Rattle.std.proofs.Common.{subst}
use Rattle.std.proofs.Common.{slice_get, arith, length-append}
use Rattle.std.specs.List.{AllZip}
use Rattle.std.proofs.lemmas.Option.{slice_get_within, same_Some}
use Rattle.std.proofs.lemmas.Bool.{cases_lt}
use Rattle.std.proofs.lemmas.Slice.Zip.{AllZip-long}
use Rattle.wb_graph.specs.Components.{AreComponents, ComponentsView}
use Rattle.wb_graph.specs.declared.order.Order.{Order}
use Rattle.wb_graph.specs.declared.order.Order.TheVariants as order
use Rattle.wb_graph.specs.Graphs.{Edge, IsEdge, IsEdgeBelow, Walk}
use Rattle.wb_graph.specs.Graphs.Walk.{stay, step}
use Rattle.wb_graph.specs.Orders.{IsCycle, IsSimpleCycle, IsAnswer, ExcludesOther}
use Rattle.wb_lemmas.proofs.Elements.{all_contained, all_from_places}
use Rattle.wb_lemmas.proofs.Members.{place_of}
use Rattle.wb_lemmas.proofs.Places.{at_once, at_within, at_one, at_push, push_keeps}
use Rattle.wb_lemmas.proofs.Zips.{beside}
use Rattle.wb_flow_theory.specs.Vertices as w
use Rattle.wb_flow_theory.specs.Flow.{IsVertex, HasFlowEdge, one, more, Reaches}
use Rattle.wb_flow_theory.specs.WellDefined.{IsAcyclic}
use Rattle.wb_flow_theory.proofs.EdgeLemmas.{edge_from, edge_to}
use Rattle.wb_flow.specs.declared.vertex.FlowGraph.{FlowGraph}
use Rattle.wb_flow.specs.declared.vertex.Vertex.{Vertex}
use Rattle.wb_flow.specs.Graphs.{IsNeededBy, IsFlowGraph}
use Rattle.wb_flow.specs.Inner.Sources.{LeaveComponents}
use Rattle.wb_flow.specs.Refusals.{IsFlowCycle}
use Rattle.wb_flow.specs.Vertices.{vertex_of}
use Rattle.wb_flow.proofs.VertexLemmas.{name_of, name_of_vertex, named_vertex}
use Rattle.wb_syntax_resolved.specs.declared.attribution.AttributionParts.{AttributionParts}
use Rattle.wb_syntax_resolved.specs.declared.production.Production.{Production}
use Rattle.wb_syntax_resolved.specs.Attribution.{IsAttribution}
use Rattle.wb_syntax_resolved.specs.Named.{IsNamedProduction}

module _ (a : AttributionParts) (production : Production) (graph : FlowGraph) (flow : IsFlowGraph a production graph) where
  -- the vertices at the ends of an edge
  record Ends (i j : ℕ) : Type 0 where
    from : Vertex
    to : Vertex
    at : slice_get graph.vertices i ≡ Some from
    there : slice_get graph.vertices j ≡ Some to
    needs : IsNeededBy a production from to

  ends_of : (i j : ℕ) → IsEdge graph.edges i j → Ends i j
  ends_of i j edge =
      let within = all_contained (IsEdgeBelow (length graph.vertices)) graph.edges (i, j) flow.within edge in
      let (u, at) = at_within graph.vertices i within.0 in
      let (v, there) = at_within graph.vertices j within.1 in
      record { from = u; to = v; at = at; there = there; needs = (flow.edges i j u v at there).0 edge }

  -- where a walk from this vertex leads: it stays, or reaches a vertex
  abbrev LeadsTo : ℕ → Vertex → ℕ → Type 0
  LeadsTo i u j = (i ≡ j) ⊎ ((v : Vertex) × (slice_get graph.vertices j ≡ Some v) × Reaches a production (vertex_of a u) (vertex_of a v))

  pub walk_leads : (i : ℕ) (u : Vertex) → slice_get graph.vertices i ≡ Some u → (j : ℕ) → Walk graph.edges i j → LeadsTo i u j
  walk_leads i u at j (stay _ same) = inl same
  walk_leads i u at j (step k _ walk edge) = go (ends_of k j edge) (walk_leads i u at k walk) where
    go : Ends k j → LeadsTo i u k → LeadsTo i u j
    go ends (inl same) =
        let equal = at_once graph.vertices k ends.from u ends.at (subst (λ z. slice_get graph.vertices z ≡ Some u) same at) in
        inr (ends.to, ends.there, one (subst (λ z. IsNeededBy a production z ends.to) equal ends.needs))
    go ends (inr (v, there, reaches)) =
        let equal = at_once graph.vertices k ends.from v ends.at there in
        inr (ends.to, ends.there, more reaches (subst (λ z. IsNeededBy a production z ends.to) equal ends.needs))

  module _ (is : IsAttribution a) (named : IsNamedProduction a production) where
    -- a vertex is at some place
    pub record PlaceOf (u : w.Vertex) : Type 0 where
      pub place : ℕ
      pub name : Vertex
      pub at : slice_get graph.vertices place ≡ Some name
      pub names : vertex_of a name ≡ u

    pub place_of_vertex : (u : w.Vertex) → IsVertex a production u → PlaceOf u
    place_of_vertex u vertex =
        let names = named_vertex a production u vertex in
        let has = (flow.vertices (name_of u)).1 (subst (IsVertex a production) (sym names) vertex) in
        let (k, at) = place_of graph.vertices (name_of u) has in
        record { place = k; name = name_of u; at = at; names = names }

    -- the edge between the places of two vertices
    place_edge : (u v : w.Vertex) (i : PlaceOf u) (k : PlaceOf v) → HasFlowEdge a production u v → IsEdge graph.edges i.place k.place
    place_edge u v i k edge =
        (flow.edges i.place k.place i.name k.name i.at k.at).1
        (subst (λ z. HasFlowEdge a production z (vertex_of a k.name)) (sym i.names) (subst (HasFlowEdge a production u) (sym k.names) edge))

    -- a vertex is at one place
    one_place : (u : w.Vertex) (i j : PlaceOf u) → i.place ≡ j.place
    one_place u i j =
        let first = sym (name_of_vertex a i.name) ∙ ap name_of i.names in
        let second = sym (name_of_vertex a j.name) ∙ ap name_of j.names in
        flow.once i.name i.place j.place i.at (j.at ∙ ap Some (second ∙ sym first))

    -- what a vertex reaches is where a walk leads to
    pub reaches_walk : (u v : w.Vertex) (i : PlaceOf u) → Reaches a production u v → (k : PlaceOf v) × Walk graph.edges i.place k.place
    reaches_walk u v i (one edge) =
        let k = place_of_vertex v (edge_to a production named is u v edge) in
        (k, step i.place k.place (stay i.place refl) (place_edge u v i k edge))
    reaches_walk u v i (more {w = x} reaches edge) =
        let (j, walk) = reaches_walk u x i reaches in
        let k = place_of_vertex v (edge_to a production named is x v edge) in
        (k, step j.place k.place walk (place_edge x v j k edge))

    -- places one after another, from the first on, and the last with an edge to this one
    record Trail (i j : ℕ) : Type 0 where
      places : List ℕ
      nonempty : 0 < length places
      first : slice_get places 0 ≡ Some i
      next : (k x y : ℕ) → slice_get places k ≡ Some x → slice_get places (k + 1) ≡ Some y → IsEdge graph.edges x y
      last : (x : ℕ) → slice_get places (length places - 1) ≡ Some x → IsEdge graph.edges x j

    trail_one : (i j : ℕ) → IsEdge graph.edges i j → Trail i j
    trail_one i j edge = record {
      places = i ∷ [];
      nonempty = omega arith;
      first = refl;
      next = λ k x y at there. (let second = (at_one i y (k + 1) there).0 in absurd (omega (arith, second)));
      last = λ x at. subst (λ z. IsEdge graph.edges z j) (same_Some i x at) edge;
    }

    module _ (i j l : ℕ) (trail : Trail i j) (edge : IsEdge graph.edges j l) where
      abbrev longer : List ℕ
      longer = trail.places ++ j ∷ []

      next_edge : (k x y : ℕ) → slice_get longer k ≡ Some x → slice_get longer (k + 1) ≡ Some y → IsEdge graph.edges x y
      next_edge k x y at there = go (at_push trail.places j x k at) (at_push trail.places j y (k + 1) there) where
        go : (slice_get trail.places k ≡ Some x) ⊎ ((k ≡ length trail.places) × (j ≡ x))
            → (slice_get trail.places (k + 1) ≡ Some y) ⊎ ((k + 1 ≡ length trail.places) × (j ≡ y)) → IsEdge graph.edges x y
        go (inl here) (inl after) = trail.next k x y here after
        go (inl here) (inr (end, same)) =
            let place : k ≡ length trail.places - 1 = omega (arith, end) in
            subst (IsEdge graph.edges x) same (trail.last x (subst (λ z. slice_get trail.places z ≡ Some x) place here))
        go (inr (end, same)) (inl after) = let within = slice_get_within trail.places (k + 1) y after in absurd (omega (arith, within, end))
        go (inr (end, same)) (inr (after, other)) = absurd (omega (arith, end, after))

      last_edge : (x : ℕ) → slice_get longer (length longer - 1) ≡ Some x → IsEdge graph.edges x l
      last_edge x at = go (at_push trail.places j x (length longer - 1) at) where
        go : (slice_get trail.places (length longer - 1) ≡ Some x) ⊎ ((length longer - 1 ≡ length trail.places) × (j ≡ x))
            → IsEdge graph.edges x l
        go (inl here) =
            let within = slice_get_within trail.places (length longer - 1) x here in
            let len : length longer ≡ length trail.places + 1 = length-append trail.places (j ∷ []) in
            absurd (omega (arith, within, len))
        go (inr (end, same)) = subst (λ z. IsEdge graph.edges z l) same edge

      trail_more : Trail i l
      trail_more = record {
        places = longer;
        nonempty = (let len : length longer ≡ length trail.places + 1 = length-append trail.places (j ∷ []) in omega (arith, len));
        first = push_keeps trail.places j 0 i trail.first;
        next = next_edge;
        last = last_edge;
      }

    trail_of : (u v : w.Vertex) (i : PlaceOf u) → Reaches a production u v → (k : PlaceOf v) × Trail i.place k.place
    trail_of u v i (one edge) =
        let k = place_of_vertex v (edge_to a production named is u v edge) in
        (k, trail_one i.place k.place (place_edge u v i k edge))
    trail_of u v i (more {w = x} reaches edge) =
        let (j, trail) = trail_of u x i reaches in
        let k = place_of_vertex v (edge_to a production named is x v edge) in
        (k, trail_more i.place j.place k.place trail (place_edge x v j k edge))

    pub reaches_from : (u v : w.Vertex) → Reaches a production u v → IsVertex a production u
    reaches_from u v (one edge) = edge_from a production named is u v edge
    reaches_from u v (more {w = x} reaches edge) = reaches_from u x reaches

    pub reaches_to : (u v : w.Vertex) → Reaches a production u v → IsVertex a production v
    reaches_to u v (one edge) = edge_to a production named is u v edge
    reaches_to u v (more {w = x} reaches edge) = edge_to a production named is x v edge

    -- what needs itself is in a cycle
    pub cycle_of : (u : w.Vertex) → Reaches a production u u → (list : List ℕ) × IsCycle graph.edges list
    cycle_of u reaches =
        let i = place_of_vertex u (reaches_from u u reaches) in
        let (k, trail) = trail_of u u i reaches in
        let same = one_place u k i in (
          trail.places,
          record {
            nonempty = trail.nonempty;
            next = trail.next;
            closes = λ x y end start. (
                let equal : i.place ≡ y = at_once trail.places 0 i.place y trail.first start in
                subst (IsEdge graph.edges x) (same ∙ equal) (trail.last x end)
                );
          },
        )

    -- where each edge leads to another component than its own, nothing needs itself
    module _ (components : ComponentsView) (are : AreComponents (length graph.vertices) graph.edges components)
        (leave : LeaveComponents graph.edges components.numbers) where
      component_at : (u : w.Vertex) (i : PlaceOf u) → (n : ℕ) × (slice_get components.numbers i.place ≡ Some n)
      component_at u i =
          at_within components.numbers i.place
          (subst (λ z. i.place < z) (sym are.len) (slice_get_within graph.vertices i.place i.name i.at))

      pub acyclic_apart : IsAcyclic a production
      acyclic_apart v (one edge) =
          let i = place_of_vertex v (edge_to a production named is v v edge) in
          let (n, at) = component_at v i in
          leave i.place i.place (place_edge v v i i edge) n at at
      acyclic_apart v (more {w = x} reaches edge) =
          let i = place_of_vertex v (edge_to a production named is x v edge) in
          let (k, walk) = reaches_walk v x i reaches in
          let back = place_edge x v k i edge in
          let (m, there) = component_at x k in
          let (n, at) = component_at v i in
          let same : m ≡ n = (are.exact k.place i.place m n there at).1 (step k.place i.place (stay k.place refl) back, walk) in
          leave k.place i.place back n (subst (λ z. slice_get components.numbers k.place ≡ Some z) same there) at

  -- an edge between places is one between vertices
  edge_needed : (i j : ℕ) (u v : Vertex) → slice_get graph.vertices i ≡ Some u → slice_get graph.vertices j ≡ Some v
      → IsEdge graph.edges i j → IsNeededBy a production u v
  edge_needed i j u v at there edge = (flow.edges i j u v at there).0 edge

  module _ (places : List ℕ) (cycle : IsSimpleCycle graph.edges places) where
    -- the places of a cycle are those of vertices
    place_has_edge : (k i : ℕ) → slice_get places k ≡ Some i → (j : ℕ) × IsEdge graph.edges i j
    place_has_edge k i at = elim (cases_lt (k + 1) (length places)) [
      | inl low ↦ (let (j, there) = at_within places (k + 1) low in (j, cycle.cycle_is.next k i j at there))
      | inr high ↦ (
          let within = slice_get_within places k i at in
          let last : k ≡ length places - 1 = omega (arith, within, high) in
          let (j, start) = at_within places 0 cycle.cycle_is.nonempty in
          (j, cycle.cycle_is.closes i j (subst (λ z. slice_get places z ≡ Some i) last at) start)
          )
    ]

    pub places_below : All (λ place. place < length graph.vertices) places
    places_below = all_from_places (λ place. place < length graph.vertices) places (λ k i at.
        let (j, edge) = place_has_edge k i at in
        (all_contained (IsEdgeBelow (length graph.vertices)) graph.edges (i, j) flow.within edge).0)

    abbrev IsAt : ℕ → Vertex → Type 0
    IsAt place vertex = slice_get graph.vertices place ≡ Some vertex

    pub flow_cycle : (found : List Vertex) → AllZip IsAt places found → IsFlowCycle a production found
    flow_cycle found zipped =
        let long : length found ≡ length places = AllZip-long IsAt places found zipped in
        record {
          nonempty = subst (λ z. 0 < z) (sym long) cycle.cycle_is.nonempty;
          next = λ k u v at there. (
              let x = beside IsAt places found k u zipped at in
              let y = beside IsAt places found (k + 1) v zipped there in
              edge_needed x.other y.other u v x.related y.related (cycle.cycle_is.next k x.other y.other x.at y.at)
              );
          closes = λ u v end start. (
              let x = beside IsAt places found (length found - 1) u zipped end in
              let y = beside IsAt places found 0 v zipped start in
              edge_needed x.other y.other u v x.related y.related (cycle.cycle_is.closes x.other y.other
              (subst (λ z. slice_get places (z - 1) ≡ Some x.other) long x.at) y.at)
              );
          once = λ u i j at there. (
              let x = beside IsAt places found i u zipped at in
              let y = beside IsAt places found j u zipped there in
              let same : x.other ≡ y.other = flow.once u x.other y.other x.related y.related in
              cycle.once y.other i j (subst (λ z. slice_get places i ≡ Some z) same x.at) y.at
              );
        }

-- with an order there is no cycle
pub no_cycle : (count : ℕ) (edges slice : List Edge) → slice ≡ edges → (o : Order) (list : Vec ℕ Global) → o ≡ order.Sorted list
    → ExcludesOther count slice o → (places : List ℕ) → IsCycle edges places → ⊥
no_cycle count edges slice same o list is excludes places cycle =
    subst (ExcludesOther count slice) is excludes places (subst (λ z. IsCycle z places) (sym same) cycle)

-- a cycle that is answered is one
pub simple_cycle : (count : ℕ) (edges slice : List Edge) → slice ≡ edges → (o : Order) (list : Vec ℕ Global) → o ≡ order.Cycle list
    → IsAnswer count slice o → IsSimpleCycle edges list.items
simple_cycle count edges slice same o list is answer =
    subst (λ z. IsSimpleCycle z list.items) same (subst (IsAnswer count slice) is answer)

-- what is read by other names of the lists
pub zip_in : (vertices slice : List Vertex) → slice ≡ vertices → (places read : List ℕ) → read ≡ places → (found : List Vertex)
    → AllZip (λ place vertex. slice_get slice place ≡ Some vertex) read found
    → AllZip (λ place vertex. slice_get vertices place ≡ Some vertex) places found
zip_in vertices slice same places read equal found zipped =
    subst (λ z. AllZip (λ place vertex. slice_get z place ≡ Some vertex) places found) same
    (subst (λ (z : List ℕ). AllZip (λ place vertex. slice_get slice place ≡ Some vertex) z found) equal zipped)
