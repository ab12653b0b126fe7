-- What is reached and isn't in a flow type is what the test of reads finds.
use Rattle.std.proofs.Common.{◌≡◌, ◌<◌, ◌∙◌, ◌⊎◌, inl, inr, ℕ, List, Option, None, Some, length, refl, sym, ap}
use Rattle.std.proofs.Common.{subst, get_or}
use Rattle.std.proofs.Common.{slice_get, Contains}
use Rattle.std.specs.Prelude.{◌↔◌, option_map}
use Rattle.std.proofs.lemmas.Option.{same_Some, slice_get-get_or}
use Rattle.wb_lemmas.proofs.Elements.{all_contained}
use Rattle.wb_lemmas.proofs.Members.{contains_at}
use Rattle.wb_lemmas.proofs.Places.{at_once}
use Rattle.wb_flow_theory.specs.Vertices as w
use Rattle.wb_flow_theory.specs.Occurrences.{Goes, Occurs}
use Rattle.wb_flow_theory.specs.Flow.{IsVertex, Reaches, one, more}
use Rattle.wb_flow_theory.proofs.EdgeLemmas.{edge_to}
use Rattle.wb_flow.specs.declared.vertex.FlowGraph.{FlowGraph}
use Rattle.wb_flow.specs.declared.vertex.Vertex.{Vertex}
use Rattle.wb_flow.specs.declared.vertex.Vertex.TheVariants as code
use Rattle.wb_flow.specs.Graphs.{IsFlowGraph}
use Rattle.wb_flow.specs.Inner.Sources.{IsSource, Allows, KeepsFrom, KeepsAll}
use Rattle.wb_flow.specs.Refusals.{ReachesOutside}
use Rattle.wb_flow.specs.Vertices.{vertex_of}
use Rattle.wb_flow.proofs.VertexLemmas.{name_of, name_of_vertex, top_is}
use Rattle.wb_flow.proofs.WalkLemmas.{PlaceOf, place_of_vertex, reaches_walk, walk_leads, reaches_from, reaches_to}
use Rattle.wb_syntax_resolved.specs.declared.attributes.Attribute.{Attribute}
use Rattle.wb_syntax_resolved.specs.declared.attributes.Direction.{Direction}
use Rattle.wb_syntax_resolved.specs.declared.attributes.Direction.TheVariants.{Synthesized, Inherited}
use Rattle.wb_syntax_resolved.specs.declared.attribution.AttributionParts.{AttributionParts}
use Rattle.wb_syntax_resolved.specs.declared.production.Production.{Production}
use Rattle.wb_syntax_resolved.specs.Attribution.{IsAttribution}
use Rattle.wb_syntax_resolved.specs.Named.{IsNamedProduction}
use Rattle.wb_flow.proofs.ReachLemmas.{LeadsToTop}

-- all that is written on a production of an attribution is named
pub known_production : (a : AttributionParts) → IsAttribution a → (number : ℕ) (production : Production)
    → slice_get a.productions number ≡ Some production → IsNamedProduction a production
known_production a is number production there =
    all_contained (IsNamedProduction a) a.productions production is.named.productions (contains_at a.productions production number there)

-- no attribute goes both ways
pub one_way : (a : AttributionParts) (x : ℕ) → Goes a Synthesized x → Goes a Inherited x → ⊥
one_way a x up down = let both = sym up ∙ down in cc

-- which way an attribute that is read goes, and which way it doesn't
module _ (a : AttributionParts) (slice : List Attribute) (same : slice ≡ a.attributes) (x : ℕ) (d : Attribute)
    (within : x < length slice) where
  read_goes : Goes a (get_or slice x d).direction x
  read_goes =
      ap (option_map (λ (r : Attribute). r.direction))
      (subst (λ (z : List Attribute). slice_get z x ≡ Some (get_or slice x d)) same (slice_get-get_or slice x d within))

  pub goes_when : (direction : Direction) → (get_or slice x d).direction ≡ direction → Goes a direction x
  goes_when direction is = subst (λ (z : Direction). Goes a z x) is read_goes

  pub goes_not : (direction : Direction) → ((get_or slice x d).direction ≡ direction → ⊥) → ¬ Goes a direction x
  goes_not direction other goes = other (same_Some (get_or slice x d).direction direction (sym read_goes ∙ goes))

-- a vertex is one attribute
one_source : (a : AttributionParts) (vertex : Vertex) (s t : Option ℕ) → IsSource a vertex s → IsSource a vertex t → s ≡ t
one_source a vertex (Some x) (Some y) (is, goes) (same, up) = let both = sym is ∙ same in let equal : x ≡ y = cc in ap Some equal
one_source a vertex (Some x) None (is, goes) same = let both = sym is ∙ same in absurd (cc)
one_source a vertex None (Some y) is (same, up) = let both = sym is ∙ same in absurd (cc)
one_source a vertex None None is same = refl

-- a vertex that is no source keeps to no flow type
pub no_source : (a : AttributionParts) (production : Production) (vertex : Vertex) → ((source : Option ℕ) → ¬ IsSource a vertex source)
    → KeepsFrom a production vertex
no_source a production vertex none source i is reaches = absurd (none source is)

module _ (a : AttributionParts) (is : IsAttribution a) (production : Production) (named : IsNamedProduction a production) (graph : FlowGraph)
    (flow : IsFlowGraph a production graph) where
  -- where each vertex keeps to its flow type, the production does
  pub keeps_all : ((k : ℕ) (vertex : Vertex) → slice_get graph.vertices k ≡ Some vertex → KeepsFrom a production vertex)
      → KeepsAll a production
  keeps_all each = (
    (λ x i occurs reaches.
        let place = place_of_vertex a production graph flow is named (w.top_synthesized x) occurs in
        let name : place.name ≡ code.Top x = sym (name_of_vertex a place.name) ∙ ap name_of place.names in
        each place.place place.name place.at (Some x) i (name, occurs.goes)
        (subst (λ z. Reaches a production z (w.top_inherited i)) (sym place.names) reaches)),
    (λ i reaches.
        let vertex = reaches_from a production graph flow is named (w.tree_of w.forward) (w.top_inherited i) reaches in
        let place = place_of_vertex a production graph flow is named (w.tree_of w.forward) vertex in
        let name : place.name ≡ code.ForwardTree = sym (name_of_vertex a place.name) ∙ ap name_of place.names in
        each place.place place.name place.at None i name
        (subst (λ z. Reaches a production z (w.top_inherited i)) (sym place.names) reaches)),
  )

  module _ (start : ℕ) (vertex : Vertex) (at : slice_get graph.vertices start ≡ Some vertex) (source : Option ℕ)
      (from : IsSource a vertex source) (allowed : List ℕ) (allows : (i : ℕ) → Contains allowed i ↔ Allows a production source i) where
    -- where all that is reached is allowed, the vertex keeps to its flow type
    pub keeps_from : ((i : ℕ) → LeadsToTop a graph start i → Contains allowed i) → KeepsFrom a production vertex
    keeps_from all other i other_from reaches =
        let place : PlaceOf a production graph flow is named (vertex_of a vertex) = record { place = start; name = vertex; at = at; names = refl } in
        let (k, walk) = reaches_walk a production graph flow is named (vertex_of a vertex) (w.top_inherited i) place reaches in
        let name : k.name ≡ code.Top i = sym (name_of_vertex a k.name) ∙ ap name_of k.names in
        let occurs = reaches_to a production graph flow is named (vertex_of a vertex) (w.top_inherited i) reaches in
        subst (λ z. Allows a production z i) (one_source a vertex source other from other_from)
        ((allows i).0 (all i (occurs.goes, (k.place, k.at ∙ ap Some name, walk))))

    -- what is reached and isn't allowed is a read outside
    outside_reached : (i : ℕ) → Goes a Inherited i → (s : Option ℕ) → s ≡ source → IsSource a vertex s
        → Reaches a production (vertex_of a vertex) (w.top_inherited i) → ¬ Contains allowed i → ReachesOutside a production s i
    outside_reached i goes (Some x) same (name, up) reaches lacks =
        let names = ap (vertex_of a) name ∙ top_is a Synthesized x up in (
          subst (IsVertex a production) names ((flow.vertices vertex).0 (contains_at graph.vertices vertex start at)),
          subst (λ z. Reaches a production z (w.top_inherited i)) names reaches,
          (λ needs. lacks ((allows i).1 (subst (λ z. Allows a production z i) same needs))),
        )
    outside_reached i goes None same name reaches lacks = (
      subst (λ z. Reaches a production z (w.top_inherited i)) (ap (vertex_of a) name) reaches,
      (λ needs. lacks ((allows i).1 (subst (λ z. Allows a production z i) same needs))),
    )

    not_itself : (i : ℕ) → vertex ≡ code.Top i → Goes a Inherited i → (s : Option ℕ) → IsSource a vertex s → ⊥
    not_itself i is_top down (Some x) (name, up) =
        let both = sym name ∙ is_top in
        let equal : x ≡ i = cc in
        one_way a i (subst (Goes a Synthesized) equal up) down
    not_itself i is_top down None name = let both = sym name ∙ is_top in cc

    pub reads_outside : (i : ℕ) → LeadsToTop a graph start i → ¬ Contains allowed i → ReachesOutside a production source i
    reads_outside i (goes, (k, there, walk)) lacks = by_walk (walk_leads a production graph flow start vertex at k walk) where
      to_other : (v : Vertex) → slice_get graph.vertices k ≡ Some v → Reaches a production (vertex_of a vertex) (vertex_of a v)
          → Reaches a production (vertex_of a vertex) (w.top_inherited i)
      to_other v at_v reaches =
          let same : v ≡ code.Top i = at_once graph.vertices k v (code.Top i) at_v there in
          subst (Reaches a production (vertex_of a vertex)) (ap (vertex_of a) same ∙ top_is a Inherited i goes) reaches

      by_walk : (start ≡ k) ⊎ ((v : Vertex) × (slice_get graph.vertices k ≡ Some v) × Reaches a production (vertex_of a vertex) (vertex_of a v))
          → ReachesOutside a production source i
      by_walk (inl same) =
          let equal = at_once graph.vertices k vertex (code.Top i) (subst (λ z. slice_get graph.vertices z ≡ Some vertex) same at) there in
          absurd (not_itself i equal goes source from)
      by_walk (inr (v, at_v, reaches)) = outside_reached i goes source refl from (to_other v at_v reaches) lacks

-- where nothing is inherited, a production keeps to all flow types
pub keeps_nothing : (a : AttributionParts) → IsAttribution a → (production : Production) → IsNamedProduction a production
    → ((i : ℕ) → ¬ Occurs a Inherited i production.left) → KeepsAll a production
keeps_nothing a is production named none = (
  (λ x i occurs reaches. absurd (none i (leads_to (w.top_synthesized x) (w.top_inherited i) reaches))),
  (λ i reaches. absurd (none i (leads_to (w.tree_of w.forward) (w.top_inherited i) reaches))),
) where
  leads_to : (u v : w.Vertex) → Reaches a production u v → IsVertex a production v
  leads_to u v (one edge) = edge_to a production named is u v edge
  leads_to u v (more {w = x} reaches edge) = edge_to a production named is x v edge

-- the vertex that is read at a place is there
pub read_vertex_at : (slice vertices : List Vertex) → slice ≡ vertices → (i : ℕ) (d : Vertex) → i < length vertices
    → slice_get vertices i ≡ Some (get_or slice i d)
read_vertex_at slice vertices same i d within =
    subst (λ z. slice_get z i ≡ Some (get_or slice i d)) same (slice_get-get_or slice i d (subst (λ z. i < length z) (sym same) within))
