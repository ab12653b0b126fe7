-- Laws of graphs for callers: walks can be put together, what is reached is closed under edges, and orders and cycles exclude each other.
use Rattle.std.proofs.Common.{◌≡◌, ◌<◌, ◌≤◌, ◌+◌, ◌-◌, ℕ, zero, suc, List, Some, All, Contains, length, get_or, slice_get, refl, sym, ◌∙◌}
use Rattle.std.proofs.Common.{subst, arith}
use Rattle.std.proofs.lemmas.Option.{slice_get_within, slice_get-get_or}
use Rattle.wb_graph.specs.Graphs.{Edge, IsEdge, IsEdgeBelow, Walk, IsReached}
use Rattle.wb_graph.specs.Graphs.Walk.{stay, step}
use Rattle.wb_graph.specs.Orders.{IsOrder, IsCycle}
use Rattle.wb_lemmas.proofs.Members.{place_of}
use Rattle.wb_graph.proofs.TakingLemmas.{edge_below}

-- two walks, the one after the other, are a walk
pub walk_on : (edges : List Edge) (u v w : ℕ) → Walk edges u v → Walk edges v w → Walk edges u w
walk_on edges u v w first (stay _ is) = subst (Walk edges u) is first
walk_on edges u v w first (step t _ before edge) = step t w (walk_on edges u v t first before) edge

-- a vertex that an edge leads to from a reached one is reached
pub reached_on : (edges : List Edge) (from : List ℕ) (u v : ℕ) → IsReached edges from u → IsEdge edges u v → IsReached edges from v
reached_on edges from u v h edge = record { start = h.start; is_start = h.is_start; walk = step u v h.walk edge }

-- a first vertex is reached
pub reached_start : (edges : List Edge) (from : List ℕ) (v : ℕ) → Contains from v → IsReached edges from v
reached_start edges from v there = record { start = v; is_start = there; walk = stay v refl }

module _ (count : ℕ) (edges : List Edge) (order cycle : List ℕ) (below : All (IsEdgeBelow count) edges) (h : IsOrder count edges order)
    (c : IsCycle edges cycle) where
  -- the place of a vertex that an edge leaves
  place_in : (u v : ℕ) → IsEdge edges u v → (i : ℕ) × (slice_get order i ≡ Some u)
  place_in u v edge = place_of order u (h.every u (edge_below count edges u v below edge).0)

  -- along a cycle the places in an order go down
  falls : (k first v i j : ℕ) → slice_get cycle 0 ≡ Some first → slice_get order j ≡ Some first → slice_get cycle k ≡ Some v →
      slice_get order i ≡ Some v → i + k ≤ j
  falls zero first v i j begin at_first here at =
      let same : i ≡ j = h.once first i j (at ∙ sym here ∙ begin) at_first in
      omega arith
  falls (suc k) first v i j begin at_first here at =
      let within : suc k < length cycle = slice_get_within cycle (suc k) v here in
      let less : k < length cycle = omega arith in
      let t : ℕ = get_or cycle k 0 in
      let before = slice_get-get_or cycle k 0 less in
      let next : suc k ≡ k + 1 = omega arith in
      let edge = c.next k t v before (subst (λ n. slice_get cycle n ≡ Some v) next here) in
      let (m, at_m) = place_in t v edge in
      let (n, lower, at_n) = h.after t v m edge at_m in
      let same : n ≡ i = h.once v n i at_n at in
      omega (arith, falls k first t m j begin at_first before at_m)

  -- so no graph has both
  pub order_excludes_cycle : ⊥
  order_excludes_cycle =
      let some : 0 < length cycle = c.nonempty in
      let less : length cycle - 1 < length cycle = omega arith in
      let first : ℕ = get_or cycle 0 0 in
      let last : ℕ = get_or cycle (length cycle - 1) 0 in
      let begin = slice_get-get_or cycle 0 0 some in
      let finish = slice_get-get_or cycle (length cycle - 1) 0 less in
      let edge = c.closes last first finish begin in
      let (m, at_m) = place_in last first edge in
      let (j, lower, at_j) = h.after last first m edge at_m in
      absurd (omega (arith, lower, falls (length cycle - 1) first last m j begin at_j finish at_m))
