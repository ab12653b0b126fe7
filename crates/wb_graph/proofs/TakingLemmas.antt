-- How the chains of edges come about, and what taking an edge changes.
use Rattle.std.proofs.Common.{◌≡◌, ◌<◌, ◌≤◌, ◌+◌, ◌-◌, ◌++◌, ◌∷◌, [], ℕ, List, Some, All, length, get_or, set, slice_get, inl, inr, sym}
use Rattle.std.proofs.Common.{◌∙◌, ap, subst, arith, length-set, get_or-set_same, get_or-set_other}
use Rattle.std.proofs.lemmas.Bool.{cases_eq, cases_lt}
use Rattle.std.proofs.lemmas.Grind.{common_steps}
use Rattle.std.proofs.lemmas.List.{get_or_past}
use Rattle.std.proofs.Math.ListN.{get_or-append}
use Rattle.std.proofs.Math.Seq.{get_or-append_seam}
use Rattle.std.proofs.lemmas.List.Elements.{All-get_or}
use Rattle.std.proofs.lemmas.List.Sums.{sum_by-set}
use Rattle.std.proofs.lemmas.Option.{slice_get_within, get_or_from_slice_get, same_Some}
use Rattle.wb_graph.specs.Graphs.{Edge, IsEdge, IsEdgeBelow}
use Rattle.wb_lemmas.proofs.Members.{contains_at}
use Rattle.wb_graph.specs.Inner.Taking.{IsLast, IsLinked, NothingTaken, Takes}

-- an edge's vertices are below the count
pub edge_below : (count : ℕ) (edges : List Edge) (u v : ℕ) → All (IsEdgeBelow count) edges → IsEdge edges u v → IsEdgeBelow count (u, v)
edge_below count edges u v all edge = subst (IsEdgeBelow count) edge.2 (All-get_or (IsEdgeBelow count) edges edge.0 (u, v) edge.1 all)

-- two edges of one place
same_edge : (edges : List Edge) (u v t w j : ℕ) → slice_get edges j ≡ Some (u, v) → slice_get edges j ≡ Some (t, w) → (u ≡ t) × (v ≡ w)
same_edge edges u v t w j at at' =
    let e = same_Some (u, v) (t, w) (sym at ∙ at') in
    (ap (λ (p : Edge). p.0) e, ap (λ (p : Edge). p.1) e)

-- a chain's first edge is in the list
pub first_within : (edges : List Edge) (firsts links : List ℕ) (u : ℕ) → IsLinked edges firsts links → 0 < get_or firsts u 0 →
    get_or firsts u 0 - 1 < length edges
first_within edges firsts links u h some =
    let (v, at) = h.leaves u (get_or firsts u 0 - 1) (omega arith) in slice_get_within edges (get_or firsts u 0 - 1) (u, v) at

-- the first edge of u's chain is taken: the chain then begins at the place that the edge is linked to
module _ (edges : List Edge) (firsts links : List ℕ) (u number place : ℕ) (h : IsLinked edges firsts links) (within : u < length firsts)
    (first : get_or firsts u 0 ≡ number + 1) (link : place ≡ get_or links number 0) where
  first_edge : (v : ℕ) × (slice_get edges number ≡ Some (u, v))
  first_edge = h.leaves u number first

  -- its place is the last edge before it
  before : IsLast edges u number place
  before = rw link (h.last u first_edge.0 number first_edge.1)

  -- where the chain then begins
  begins : get_or (set firsts u place) u 0 ≡ place
  begins = get_or-set_same firsts u place 0 within

  -- the chains are still chains
  pub take_linked : IsLinked edges (set firsts u place) links
  take_linked = record {
    len = h.len;
    leaves = λ t j e. elim (cases_eq t u) [
      | inl same ↦ rw same (before.leaves j (sym begins ∙ subst (λ x. get_or (set firsts u place) x 0 ≡ j + 1) same e))
      | inr other ↦ h.leaves t j (sym (get_or-set_other firsts u t place 0 other) ∙ e)
    ];
    last = h.last;
  }

  -- one more edge is taken
  pub take_takes : Takes edges firsts (set firsts u place) u (get_or edges number (0, 0)).1
  take_takes =
      let (v, at) = first_edge in
      let e : (u, v) ≡ get_or edges number (0, 0) = sym (get_or_from_slice_get edges number (u, v) (0, 0) at) in
      subst (λ (edge : Edge). Takes edges firsts (set firsts u place) u edge.1) e (record {
        edge = contains_at edges (u, v) number at;
        fewer = omega (arith, sum_by-set (λ x. x) firsts u place 0 within, before.within);
        here = λ w (k, low, at'). elim (cases_lt k number) [
          | inl less ↦ absurd (before.others k w (subst (λ x. x ≤ k) begins low) less at')
          | inr more ↦ elim (cases_eq k number) [
            | inl same ↦ inr (same_edge edges u w u v number (subst (λ x. slice_get edges x ≡ Some (u, w)) same at') at).1
            | inr other ↦ inl (k, omega arith, at')
          ]
        ];
        others = λ t other. get_or-set_other firsts u t place 0 other;
      })

-- the chains as they come about, with the first edges, so many, in them
pub record IsBuilt (count : ℕ) (edges : List Edge) (number : ℕ) (firsts links : List ℕ) : Type 0 where
  pub firsts_len : length firsts ≡ count
  pub links_len : length links ≡ number
  pub firsts_last : (u : ℕ) → u < count → IsLast edges u number (get_or firsts u 0)
  pub links_last : (u v j : ℕ) → j < number → slice_get edges j ≡ Some (u, v) → IsLast edges u j (get_or links j 0)

-- one more edge begins its vertex' chain, and is linked to what began it
pub built_more : (count : ℕ) (edges : List Edge) (number : ℕ) (firsts links : List ℕ) (edge : Edge) →
    IsBuilt count edges number firsts links → edge.0 < count → slice_get edges number ≡ Some edge →
    IsBuilt count edges (number + 1) (set firsts edge.0 (number + 1)) (links ++ get_or firsts edge.0 0 ∷ [])
built_more count edges number firsts links (u, v) h within at = record {
  firsts_len = length-set firsts u (number + 1) ∙ h.firsts_len;
  links_len = grind (arith, common_steps, h.links_len);
  firsts_last = λ t below. elim (cases_eq t u) [
    | inl same ↦ rw (same, get_or-set_same firsts u (number + 1) 0 (omega (arith, h.firsts_len))) (record {
      within = omega arith;
      leaves = λ j e. let is : j ≡ number = omega arith in rw is (v, at);
      others = λ j w low high. absurd (omega arith);
    })
    | inr other ↦
        let old = h.firsts_last t below in
        rw (get_or-set_other firsts u t (number + 1) 0 other) (record {
          within = omega (arith, old.within);
          leaves = old.leaves;
          others = λ j w low high at'. elim (cases_eq j number) [
            | inl same ↦ other (same_edge edges t w u v number (subst (λ x. slice_get edges x ≡ Some (t, w)) same at') at).0
            | inr early ↦ old.others j w low (omega arith) at'
          ];
        })
  ];
  links_last = λ t w j less at'. elim (cases_eq j number) [
    | inl same ↦
        let is : t ≡ u = (same_edge edges t w u v number (subst (λ x. slice_get edges x ≡ Some (t, w)) same at') at).0 in
        let e : get_or (links ++ get_or firsts u 0 ∷ []) number 0 ≡ get_or firsts u 0 = subst
        (λ n. get_or (links ++ get_or firsts u 0 ∷ []) n 0 ≡ get_or firsts u 0) h.links_len
        (get_or-append_seam links (get_or firsts u 0) [] 0) in
        rw (same, e, is) (h.firsts_last u within)
    | inr early ↦
        let lt : j < length links = omega (arith, h.links_len) in
        rw (get_or-append links (get_or firsts u 0 ∷ []) 0 j lt) (h.links_last t w j (omega arith) at')
  ];
}

-- with every edge in a chain, none is taken
pub built_linked : (count : ℕ) (edges : List Edge) (firsts links : List ℕ) → IsBuilt count edges (length edges) firsts links →
    IsLinked edges firsts links
built_linked count edges firsts links h = record {
  len = h.links_len;
  leaves = λ u j e. elim (cases_lt u count) [
    | inl below ↦ (h.firsts_last u below).leaves j e
    | inr past ↦ absurd (omega (arith, e, get_or_past firsts u 0 (omega (arith, h.firsts_len))))
  ];
  last = λ u v j at. h.links_last u v j (slice_get_within edges j (u, v) at) at;
}

-- and so nothing is taken
pub built_nothing : (count : ℕ) (edges : List Edge) (firsts links : List ℕ) → All (IsEdgeBelow count) edges →
    IsBuilt count edges (length edges) firsts links → NothingTaken edges firsts
built_nothing count edges firsts links all h u v (j, low, at) =
    let below = edge_below count edges u v all (contains_at edges (u, v) j at) in
    (h.firsts_last u below.0).others j v low (slice_get_within edges j (u, v) at) at
