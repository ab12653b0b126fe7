-- Trails, the paths that they give, and what is not met by one.
use Rattle.std.proofs.Common.{◌≡◌, ◌≢◌, ℕ, ◌+◌, ◌-◌, ◌<◌, ◌≤◌, zero, suc, List, [], ◌∷◌, ◌++◌, length, get_or, set, replicate, Some, refl}
use Rattle.std.proofs.Common.{sym, ◌∙◌, ap, subst, inl, inr, arith, get_or-set_same, get_or-set_other}
use Rattle.std.specs.Prelude.{Contains, slice_get, slice_index}
use Rattle.std.proofs.lemmas.Option.{slice_get_within, slice_get-get_or, same_Some}
use Rattle.std.proofs.lemmas.Bool.{cases_eq, cases_lt}
use Rattle.std.proofs.lemmas.List.{get_or-replicate, get_or_past, length-replicate}
use Rattle.wb_lemmas.proofs.Places.{at_push, push_keeps, push_last}
use Rattle.wb_lemmas.proofs.Members.{contains_one, contains_push}
use Rattle.wb_graph.specs.Graphs.{Edge, IsEdge, Walk, stay, step, IsReached}
use Rattle.wb_grammar.specs.Inner.Paths.{IsPathTo, alone, longer, LeadsBack, IsTrail, IsBackClosed}

-- a new trail
pub trail_start : (edges : List Edge) (to count : ℕ) (places : List ℕ) → ((v : ℕ) → slice_index places v ≡ 0) → to < length places →
    IsTrail edges to (set places to 1) ((to, 0) ∷ [])
trail_start edges to count places none lt = record {
  first = refl;
  each = λ i link at ne. absurd (one_link i link at ne);
  met = met;
  placed = placed;
  start = (let e : get_or (set places to 1) to 0 ≡ 1 = get_or-set_same places to 1 0 lt in omega arith);
}
  where
    one_link : (i : ℕ) (link : ℕ × ℕ) → slice_get ((to, 0) ∷ []) i ≡ Some link → i ≢ 0 → ⊥
    one_link zero link at ne = ne refl
    one_link (suc i) link at ne = cc

    placed : (i : ℕ) (link : ℕ × ℕ) → slice_get ((to, 0) ∷ []) i ≡ Some link → slice_index (set places to 1) link.0 ≡ i + 1
    placed zero link at =
        let is : to ≡ link.0 = ap (λ (l : ℕ × ℕ). l.0) (same_Some (to, 0) link at) in
        ap (λ v. slice_index (set places to 1) v) (sym is) ∙ get_or-set_same places to 1 0 lt
    placed (suc i) link at = cc

    met : (v i : ℕ) → slice_index (set places to 1) v ≡ i + 1 → (link : ℕ × ℕ) × (slice_get ((to, 0) ∷ []) i ≡ Some link) × (link.0 ≡ v)
    met v i at = elim (cases_eq v to) [
      | inl same ↦
          let e : slice_index (set places to 1) v ≡ 1 = rw same (get_or-set_same places to 1 0 lt) in
          let z : i ≡ 0 = omega arith in
          ((to, 0), (let only : ℕ × ℕ = (to, 0) in subst (λ n. slice_get (only ∷ []) n ≡ Some only) (sym z) refl), sym same)
      | inr other ↦
          let e : slice_index (set places to 1) v ≡ 0 = get_or-set_other places to v 1 0 other ∙ none v in
          absurd (omega arith)
    ]

-- one more link
pub trail_more : (edges : List Edge) (to : ℕ) (places : List ℕ) (trail : List (ℕ × ℕ)) (above below : ℕ) → IsEdge edges above below →
    above < length places → slice_index places above ≡ 0 → slice_index places below ≢ 0 → IsTrail edges to places trail →
    IsTrail edges to (set places above (length trail + 1)) (trail ++ (above, slice_index places below - 1) ∷ [])
trail_more edges to places trail above below edge lt unmet met_below t = record {
  first = push_keeps trail new 0 (to, 0) t.first;
  each = each;
  met = met;
  placed = placed;
  start = (let e : get_or (set places above (length trail + 1)) to 0 ≡ get_or places to 0 =
      get_or-set_other places above to (length trail + 1) 0
      (λ same. (let z : slice_index places to ≡ 0 = rw same unmet in omega (arith, t.start))) in omega (arith, t.start));
}
  where
    new : ℕ × ℕ
    new = (above, slice_index places below - 1)

    placed : (i : ℕ) (link : ℕ × ℕ) → slice_get (trail ++ new ∷ []) i ≡ Some link →
        slice_index (set places above (length trail + 1)) link.0 ≡ i + 1
    placed i link at = elim (at_push trail new link i at) [
      | inl old ↦
          let there : slice_index places link.0 ≡ i + 1 = t.placed i link old in
          get_or-set_other places above link.0 (length trail + 1) 0
          (λ same. (let none : slice_index places link.0 ≡ 0 = rw same unmet in omega (arith, there, none))) ∙ there
      | inr last ↦
          let is : above ≡ link.0 = ap (λ (l : ℕ × ℕ). l.0) last.1 in
          ap (λ v. slice_index (set places above (length trail + 1)) v) (sym is) ∙
          (get_or-set_same places above (length trail + 1) 0 lt ∙ ap (λ n. n + 1) (sym last.0))
    ]

    back_of : LeadsBack edges (trail ++ (above, slice_index places below - 1) ∷ []) (length trail) (above, slice_index places below - 1)
    back_of =
        let e : slice_index places below ≡ (slice_index places below - 1) + 1 = omega arith in
        let (link, at, is) = t.met below (slice_index places below - 1) e in
        record {
          lower = slice_get_within trail (slice_index places below - 1) link at;
          above = link;
          there = push_keeps trail (above, slice_index places below - 1) (slice_index places below - 1) link at;
          edge = subst (λ z. IsEdge edges above z) (sym is) edge;
        }

    each : (i : ℕ) (link : ℕ × ℕ) → slice_get (trail ++ (above, slice_index places below - 1) ∷ []) i ≡ Some link → i ≢ 0 →
        LeadsBack edges (trail ++ (above, slice_index places below - 1) ∷ []) i link
    each i link at ne = elim (at_push trail (above, slice_index places below - 1) link i at) [
      | inl old ↦
          let b = t.each i link old ne in
          record {
            lower = b.lower;
            above = b.above;
            there = push_keeps trail (above, slice_index places below - 1) link.1 b.above b.there;
            edge = b.edge;
          }
      | inr new_link ↦
          subst (λ (n : ℕ). LeadsBack edges (trail ++ (above, slice_index places below - 1) ∷ []) n link) (sym new_link.0)
          (subst (λ (l : ℕ × ℕ). LeadsBack edges (trail ++ (above, slice_index places below - 1) ∷ []) (length trail) l) new_link.1 back_of)
    ]

    met : (v i : ℕ) → slice_index (set places above (length trail + 1)) v ≡ i + 1 →
        (link : ℕ × ℕ) × (slice_get (trail ++ (above, slice_index places below - 1) ∷ []) i ≡ Some link) × (link.0 ≡ v)
    met v i at = elim (cases_eq v above) [
      | inl same ↦
          let e : slice_index (set places above (length trail + 1)) v ≡ length trail + 1 = rw same
          (get_or-set_same places above (length trail + 1) 0 lt) in
          let z : length trail ≡ i = omega arith in (
            (above, slice_index places below - 1),
            subst (λ n. slice_get (trail ++ (above, slice_index places below - 1) ∷ []) n ≡ Some (above, slice_index places below - 1)) z
                (push_last trail (above, slice_index places below - 1)),
            sym same,
          )
      | inr other ↦
          let e : slice_index places v ≡ i + 1 = sym (get_or-set_other places above v (length trail + 1) 0 other) ∙ at in
          let (link, there, is) = t.met v i e in
          (link, push_keeps trail (above, slice_index places below - 1) i link there, is)
    ]

-- what a closed set of met vertices doesn't have doesn't lead to where the trail began
closed_back : {edges : List Edge} {from to : ℕ} (places : List ℕ) → IsBackClosed edges places → Walk edges from to →
    0 < slice_index places to → 0 < slice_index places from
closed_back {edges} {from} places closed (stay v same) lt = subst (λ z. 0 < slice_index places z) (sym same) lt
closed_back places closed (step v w walk edge) lt = closed_back places closed walk (closed v w edge lt)

pub not_reached : (edges : List Edge) (from to : ℕ) (places : List ℕ) (trail : List (ℕ × ℕ)) → IsBackClosed edges places →
    IsTrail edges to places trail → slice_index places from ≡ 0 → ¬ IsReached edges (from ∷ []) to
not_reached edges from to places trail closed t none r =
    let walk : Walk edges from to = subst (λ z. Walk edges z to) (one_start r.start r.is_start) r.walk in
    let lt : 0 < slice_index places from = closed_back places closed walk t.start in
    omega arith
  where
    one_start : (x : ℕ) → Contains (from ∷ []) x → x ≡ from
    one_start x (zero, lt, is) = sym is
    one_start x (suc k, lt, is) = absurd (omega arith)

-- the vertices of a path so far are those of links of the trail, from a place on
abbrev pub AreFrom : List (ℕ × ℕ) → ℕ → List ℕ → Type 0
AreFrom trail at path = (v : ℕ) → Contains path v → (i : ℕ) × (link : ℕ × ℕ) × (at ≤ i) × (slice_get trail i ≡ Some link) × (link.0 ≡ v)

-- a path so far from a link to the one at a place
abbrev pub GoesBack : List (ℕ × ℕ) → ℕ → List ℕ → ℕ → Type 0
GoesBack trail place path at =
    (edges : List Edge) (to : ℕ) (places : List ℕ) (link last : ℕ × ℕ) → IsTrail edges to places trail → slice_get trail place ≡ Some link →
    slice_get trail at ≡ Some last → IsPathTo edges link.0 path last.0 × AreFrom trail at path

same_element : (trail : List (ℕ × ℕ)) (i : ℕ) (x y : ℕ × ℕ) → slice_get trail i ≡ Some x → slice_get trail i ≡ Some y → x ≡ y
same_element trail i x y a b = cc

pub goes_start : (trail : List (ℕ × ℕ)) (place : ℕ) (d : ℕ × ℕ) → place < length trail →
    GoesBack trail place ((get_or trail place d).0 ∷ []) place
goes_start trail place d lt edges to places link last t a b = (
  alone (ap (λ (l : ℕ × ℕ). l.0 ∷ []) is) (ap (λ (l : ℕ × ℕ). l.0) same),
  λ v has. (place, get_or trail place d, omega arith, at, sym ((contains_one (get_or trail place d).0 v).0 has)),
)
  where
    at : slice_get trail place ≡ Some (get_or trail place d)
    at = slice_get-get_or trail place d lt

    is : get_or trail place d ≡ link
    is = same_element trail place (get_or trail place d) link at a

    same : last ≡ link
    same = same_element trail place last link b a

pub goes_more : (trail : List (ℕ × ℕ)) (place : ℕ) (path : List ℕ) (at : ℕ) (d e : ℕ × ℕ) → at < length trail → at ≢ 0 →
    (get_or trail at d).1 < length trail → GoesBack trail place path at →
    GoesBack trail place (path ++ (get_or trail (get_or trail at d).1 e).0 ∷ []) (get_or trail at d).1
goes_more trail place path at d e lt ne lt' goes edges to places link last t a b = (
  longer path x.0 so_far.0 (subst (λ (l : ℕ × ℕ). IsEdge edges x.0 l.0) same back.edge) (λ has. is_new (so_far.1 last.0 has))
      (ap (λ (l : ℕ × ℕ). path ++ l.0 ∷ []) is),
  from,
)
  where
    x : ℕ × ℕ
    x = get_or trail at d

    at_x : slice_get trail at ≡ Some x
    at_x = slice_get-get_or trail at d lt

    back : LeadsBack edges trail at x
    back = t.each at x at_x ne

    so_far : IsPathTo edges link.0 path x.0 × AreFrom trail at path
    so_far = goes edges to places link x t a at_x

    here : slice_get trail x.1 ≡ Some (get_or trail x.1 e)
    here = slice_get-get_or trail x.1 e lt'

    is : get_or trail x.1 e ≡ last
    is = same_element trail x.1 (get_or trail x.1 e) last here b

    same : back.above ≡ last
    same = same_element trail x.1 back.above last back.there b

    is_new : (i : ℕ) × (other : ℕ × ℕ) × (at ≤ i) × (slice_get trail i ≡ Some other) × (other.0 ≡ last.0) → ⊥
    is_new (i, other, le, there, one) =
        let first : slice_index places last.0 ≡ x.1 + 1 = t.placed x.1 last b in
        let second : slice_index places last.0 ≡ i + 1 = ap (λ v. slice_index places v) (sym one) ∙ t.placed i other there in
        let lower : x.1 < at = back.lower in
        omega (arith, first, second, lower, le)

    from : AreFrom trail x.1 (path ++ (get_or trail x.1 e).0 ∷ [])
    from v has = elim (contains_push path (get_or trail x.1 e).0 v has) [
      | inl old ↦ (let (i, other, le, there, one) = so_far.1 v old in (
        i,
        other,
        (let lower : x.1 < at =
            back.lower in omega (arith, lower, le)),
        there,
        one,
      ))
      | inr new ↦ (x.1, get_or trail x.1 e, omega arith, here, new)
    ]

pub goes_end : (trail : List (ℕ × ℕ)) (place : ℕ) (path : List ℕ) → GoesBack trail place path 0 → (edges : List Edge) (to : ℕ)
    (places : List ℕ) (link : ℕ × ℕ) → IsTrail edges to places trail → slice_get trail place ≡ Some link → IsPathTo edges link.0 path to
goes_end trail place path goes edges to places link t a = (goes edges to places link (to, 0) t a t.first).0

-- the path from a vertex that was met
pub path_of : (edges : List Edge) (from to : ℕ) (places : List ℕ) (trail : List (ℕ × ℕ)) (path : List ℕ) → IsTrail edges to places trail →
    slice_index places from ≢ 0 → ((edges : List Edge) (to : ℕ) (others : List ℕ) (link : ℕ × ℕ) → IsTrail edges to others trail →
    slice_get trail (slice_index places from - 1) ≡ Some link → IsPathTo edges link.0 path to) → IsPathTo edges from path to
path_of edges from to places trail path t ne goes =
    let e : slice_index places from ≡ (slice_index places from - 1) + 1 = omega arith in
    let (link, at, is) = t.met from (slice_index places from - 1) e in
    subst (λ z. IsPathTo edges z path to) is (goes edges to places link t at)

pub place_within : (edges : List Edge) (from to : ℕ) (places : List ℕ) (trail : List (ℕ × ℕ)) → IsTrail edges to places trail →
    slice_index places from ≢ 0 → slice_index places from - 1 < length trail
place_within edges from to places trail t ne =
    let e : slice_index places from ≡ (slice_index places from - 1) + 1 = omega arith in
    let (link, at, is) = t.met from (slice_index places from - 1) e in
    slice_get_within trail (slice_index places from - 1) link at

-- a list of zeros has no other number
pub zeros : (count v : ℕ) → slice_index (replicate count 0) v ≡ 0
zeros count v = elim (cases_lt v count) [
  | inl within ↦ get_or-replicate {A = ℕ} count v 0 0 within
  | inr past ↦ get_or_past {X = ℕ} (replicate count 0) v 0 (omega (arith, length-replicate {A = ℕ} count 0))
]
