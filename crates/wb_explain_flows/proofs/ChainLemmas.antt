-- A chain with one step more, and what its edges say.
use Rattle.std.proofs.Common.{◌≡◌, ◌<◌, ◌≤◌, ◌+◌, ◌++◌, ◌∷◌, [], ◌∙◌, ℕ, List, Some, length, take, get_or, slice_get, Contains, refl, sym, subst, ap}
use Rattle.std.proofs.lemmas.List.{take_more, take_all}
use Rattle.std.proofs.lemmas.Option.{slice_get-get_or}
use Rattle.wb_lemmas.proofs.Members.{contains_at}
use Rattle.wb_flow.specs.Graphs.{IsFlowGraph, IsNeededBy}
use Rattle.wb_flow.specs.declared.vertex.FlowGraph.{FlowGraph}
use Rattle.wb_flow.specs.declared.vertex.Vertex.{Vertex}
use Rattle.wb_syntax_resolved.specs.declared.attribution.AttributionParts.{AttributionParts}
use Rattle.wb_syntax_resolved.specs.declared.production.Production.{Production}
use Rattle.wb_explain_flows.specs.declared.chain.Step.{Step}
use Rattle.wb_explain_flows.specs.Chains.{IsChain}

pub no_chain : (steps : List Step) (from : Vertex) → IsChain from from (take 0 steps)
no_chain [] from = refl
no_chain (s ∷ steps) from = refl

push_step : (steps : List Step) (from at : Vertex) (s : Step) → IsChain from at steps → s.from ≡ at → IsChain from s.to (steps ++ s ∷ [])
push_step [] from at s is begins = (begins ∙ sym is, refl)
push_step (t ∷ steps) from at s (first, is) begins = (first, push_step steps t.to at s is begins)

-- one step more
pub more_chain : (steps : List Step) (from at : Vertex) (i : ℕ) (s : Step) → IsChain from at (take i steps) → i < length steps
    → s ≡ get_or steps i s → s.from ≡ at → IsChain from s.to (take (i + 1) steps)
more_chain steps from at i s is within item begins =
    subst (IsChain from s.to) (sym (take_more steps i s within ∙ ap (λ z. take i steps ++ z ∷ []) (sym item)))
    (push_step (take i steps) from at s is begins)

-- all steps
pub all_chain : (steps : List Step) (from at to : Vertex) (i : ℕ) → IsChain from at (take i steps) → length steps ≤ i → at ≡ to
    → IsChain from to steps
all_chain steps from at to i is ended same =
    subst (IsChain from to) (take_all i steps ended) (subst (λ z. IsChain from z (take i steps)) same is)

-- an edge between the places of two vertices
pub edge_needed : (graph : FlowGraph) (from to : Vertex) (i j : ℕ) → slice_get graph.vertices i ≡ Some from
    → slice_get graph.vertices j ≡ Some to → Contains graph.edges (i, j) → (a : AttributionParts) (p : Production)
    → IsFlowGraph a p graph → IsNeededBy a p from to
edge_needed graph from to i j left right edge a p is = (is.edges i j from to left right).0 edge

-- the same of an edge that a loop reads
pub edge_of : (graph : FlowGraph) (from to : Vertex) (vertices : List Vertex) (items : List (ℕ × ℕ)) → vertices ≡ graph.vertices
    → items ≡ graph.edges → (i : ℕ) (d : ℕ × ℕ) → i < length items
    → (slice_get vertices (get_or items i d).0 ≡ Some from) × (slice_get vertices (get_or items i d).1 ≡ Some to)
    → (a : AttributionParts) (p : Production) → IsFlowGraph a p graph → IsNeededBy a p from to
edge_of graph from to vertices items same_vertices same_edges i d within both =
    let e = get_or items i d in
    edge_needed graph from to e.0 e.1 (subst (λ (z : List Vertex). slice_get z e.0 ≡ Some from) same_vertices both.0)
    (subst (λ (z : List Vertex). slice_get z e.1 ≡ Some to) same_vertices both.1)
    (subst (λ (z : List (ℕ × ℕ)). Contains z e) same_edges (contains_at items e i (slice_get-get_or items i d within)))

-- one step more, as a loop reads it
pub more_read : (steps : List Step) (from at : Vertex) (i : ℕ) (d : Step) → IsChain from at (take i steps) → i < length steps
    → (get_or steps i d).from ≡ at → IsChain from (get_or steps i d).to (take (i + 1) steps)
more_read steps from at i d is within begins =
    let s = get_or steps i d in
    subst (IsChain from s.to) (sym (take_more steps i d within)) (push_step (take i steps) from at s is begins)
