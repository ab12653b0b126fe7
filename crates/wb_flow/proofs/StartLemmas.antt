-- Sets of components with the vertices of their own, and what a union of two of them leaves.
use Rattle.std.proofs.Common.{◌≡◌, ◌≢◌, ◌<◌, ◌≤◌, ◌+◌, ◌-◌, ◌∙◌, ◌++◌, [], ◌⊎◌, inl, inr, ℕ, Bool, true}
use Rattle.std.proofs.Common.{false, List, Some, Contains, length, refl, sym, ap}
use Rattle.std.proofs.Common.{subst, slice_get, arith, replicate, get_or, take, drop}
use Rattle.std.proofs.Common.{get_or-set_same, get_or-set_other, length-set, length-append}
use Rattle.std.specs.Prelude.{slice_set}
use Rattle.std.proofs.lemmas.Bool.{cases_eq, cases_lt}
use Rattle.std.proofs.lemmas.List.{get_or_past, get_or-replicate, length-replicate, set-append_right}
use Rattle.std.proofs.lemmas.Option.{slice_get_within, slice_get-get_or}
use Rattle.wb_base.specs.Different.{Differ}
use Rattle.wb_graph.specs.Components.{ComponentsView}
use Rattle.wb_lemmas.proofs.Members.{contains_at}
use Rattle.wb_lemmas.proofs.Parts.{take_append}
use Rattle.wb_lemmas.proofs.Places.{at_once, append_after, append_keeps, default_at}
use Rattle.wb_termset.specs.Sets.{IsMember, IsUnion}
use Rattle.wb_termset.proofs.CallerLemmas.{IsEmpty-replicate, IsSubset-insert, IsMember-insert_same, IsMember-insert, has_below}
use Rattle.wb_flow.specs.declared.vertex.Vertex.{Vertex}
use Rattle.wb_flow.specs.Inner.Closing.{AreEven, IsStart, AddsStart, AreStartsBefore, AreStarts, AreJoined}
use Rattle.wb_flow.specs.ReachSets.{set_at, AreSets}
use Rattle.wb_flow.proofs.AddingLemmas.{below_or}

-- a set that is put at a place
module _ (sets : List (List Bool)) (place : ℕ) (set : List Bool) (within : place < length sets) where
  pub put_same : set_at (slice_set sets place set) place ≡ set
  put_same = get_or-set_same sets place set [] within

  pub put_other : (c : ℕ) → c ≢ place → set_at (slice_set sets place set) c ≡ set_at sets c
  put_other c other = get_or-set_other sets place c set [] other

  -- keeps the counts where it has that of the old one
  pub put_lens : length set ≡ length (set_at sets place) → (c : ℕ) → length (set_at (slice_set sets place set) c) ≡ length (set_at sets c)
  put_lens same c = elim (cases_eq c place) [
    | inl equal ↦ subst (λ k. length (set_at (slice_set sets place set) k) ≡ length (set_at sets k)) (sym equal)
        (ap (λ (z : List Bool). length z) put_same ∙ same)
    | inr other ↦ ap (λ (z : List Bool). length z) (put_other c other)
  ]

-- a union that is put at the place of its first set
pub joined : (to from : ℕ) (old : List (List Bool)) (union : List Bool) → to < length old
    → IsUnion (set_at old to) (set_at old from) union → AreJoined to from old (slice_set old to union)
joined to from old union within is = record {
  len = length-set old to union;
  union = subst (λ z. IsUnion (set_at old to) (set_at old from) z) (sym (put_same old to union within)) is;
  others = put_other old to union within;
}

-- a union that was made of the parts of a list, by their first places
pub joined_parts : (to from len : ℕ) (old slice front back : List (List Bool)) (d e union : List Bool) → slice ≡ old
    → slice ≡ front ++ back → length front ≡ to → from < to → to < length old → len ≡ length old
    → IsUnion (get_or back 0 d) (get_or front from e) union
    → AreJoined to from old (take len (front ++ slice_set back 0 union ++ drop (length (front ++ slice_set back 0 union)) old))
joined_parts to from len old slice front back d e union same parts long low within count is_union =
    let whole : front ++ back ≡ old = sym parts ∙ same in
    let lens : length front + length back ≡ length old = sym (length-append front back) ∙ ap (λ (z : List (List Bool)). length z) whole in
    let some : 0 < length back = omega (arith, lens, long, within) in
    let inside : from < length front = omega (arith, long, low) in
    let first : List Bool = get_or back 0 d in
    let second : List Bool = get_or front from e in
    let at_first : slice_get back 0 ≡ Some first = slice_get-get_or back 0 d some in
    let at_second : slice_get front from ≡ Some second = slice_get-get_or front from e inside in
    let place : length front + 0 ≡ to = omega (arith, long) in
    let at_to : slice_get old to ≡ Some first = subst (λ (z : List (List Bool)). slice_get z to ≡ Some first) whole
    (subst (λ n. slice_get (front ++ back) n ≡ Some first) place (append_after front back 0 ∙ at_first)) in
    let at_from : slice_get old from ≡ Some second = subst (λ (z : List (List Bool)). slice_get z from ≡ Some second) whole
    (append_keeps front back from second at_second) in
    let zero : to - to ≡ 0 = omega arith in
    let set_is : slice_set old to union ≡ front ++ slice_set back 0 union =
    ap (λ (z : List (List Bool)). slice_set z to union) (sym whole) ∙ set-append_right front back to to union long (omega arith)
    ∙ ap (λ n. front ++ slice_set back n union) zero in
    let made : length (front ++ slice_set back 0 union) ≡ len =
    ap (λ (z : List (List Bool)). length z) (sym set_is) ∙ length-set old to union ∙ sym count in
    let cut = take_append len (front ++ slice_set back 0 union) (drop (length (front ++ slice_set back 0 union)) old) made in
    let is : IsUnion (set_at old to) (set_at old from) union =
    subst (λ z. IsUnion z (set_at old from) union) (sym (default_at old to [] first at_to))
    (subst (λ z. IsUnion first z union) (sym (default_at old from [] second at_from)) is_union) in
    subst (λ z. AreJoined to from old z) (set_is ∙ sym cut) (joined to from old union within is)

-- a set that is empty has no member, also where there is none
pub empty_at : (number count c r : ℕ) → ¬ IsMember (set_at (replicate number (replicate count false)) c) r
empty_at number count c r has = elim (cases_lt c number) [
  | inl within ↦ IsEmpty-replicate count r
      (subst (λ z. IsMember z r) (get_or-replicate number c (replicate count false) [] within) has)
  | inr past ↦ (
      let none = get_or_past (replicate number (replicate count false)) c []
      (subst (λ n. n ≤ c) (sym (length-replicate number (replicate count false))) past) in
      let below = has_below [] r (subst (λ z. IsMember z r) none has) in
      absurd (omega (arith, below))
      )
]

module _ (vertices tops : List Vertex) (components : ComponentsView) where
  -- no vertex yet
  pub starts_begin : (sets : List (List Bool)) (number count : ℕ) → number ≡ length components.roots → count ≡ length tops
      → sets ≡ replicate number (replicate count false) → AreStartsBefore vertices tops components sets 0
  starts_begin sets number count many same is = subst (λ z. AreStartsBefore vertices tops components z 0) (sym is) (record {
    sizes = record {
      len = length-replicate number (replicate count false) ∙ many;
      each = λ c within.
          ap (λ (z : List Bool). length z) (get_or-replicate number c (replicate count false) [] (subst (λ n. c < n) (sym many) within))
          ∙ length-replicate count false ∙ same;
    };
    each = λ c r. (
      (λ has. absurd (empty_at number count c r has)),
      (λ (place, lt, start). absurd (omega (arith, lt))),
    );
  })

  -- one vertex more
  pub starts_more : (old new : List (List Bool)) (place c : ℕ) (v : Vertex) → slice_get vertices place ≡ Some v
      → slice_get components.numbers place ≡ Some c → AreStartsBefore vertices tops components old place → AddsStart tops v c old new
      → AreStartsBefore vertices tops components new (place + 1)
  starts_more old new place c v at component before adds = record {
    sizes = record {
      len = adds.len ∙ before.sizes.len;
      each = λ d within. adds.lens d ∙ before.sizes.each d within;
    };
    each = λ d r. (to d r, from d r);
  } where
    to : (d r : ℕ) → IsMember (set_at new d) r → (p : ℕ) × (p < place + 1) × IsStart vertices tops components d r p
    to d r has = elim ((adds.each d r).0 has) [
      | inl own ↦ (let (p, lt, start) = (before.each d r).0 own in (p, (omega (arith, lt)), start))
      | inr (same, top) ↦ (
        place,
        (omega arith),
        record {
          vertex = v;
          at = at;
          top = top;
          component = component ∙ ap Some (sym same);
        },
      )
    ]

    from : (d r : ℕ) → (p : ℕ) × (p < place + 1) × IsStart vertices tops components d r p → IsMember (set_at new d) r
    from d r (p, lt, start) = (adds.each d r).1 (elim (below_or p place lt) [
      | inl low ↦ inl ((before.each d r).1 (p, low, start))
      | inr last ↦ (
          let vertex = at_once vertices place start.vertex v (subst (λ k. slice_get vertices k ≡ Some start.vertex) last start.at) at in
          let number = at_once components.numbers place d c
          (subst (λ k. slice_get components.numbers k ≡ Some d) last start.component) component in
          inr (number, start.top ∙ ap Some vertex)
          )
    ])

  -- after all vertices
  pub starts_end : (sets : List (List Bool)) (count : ℕ) → length vertices ≤ count → AreStartsBefore vertices tops components sets count
      → AreStarts vertices tops components sets
  starts_end sets count ended all = record {
    sizes = all.sizes;
    each = λ c r. (
      (λ has. let (p, lt, start) = (all.each c r).0 has in (p, start)),
      (λ (p, start).
          let within = slice_get_within vertices p start.vertex start.at in
          (all.each c r).1 (p, (omega (arith, within, ended)), start)),
    );
  }

-- as many sets of numbers below one count are even
pub sets_even : (number count : ℕ) (sets : List (List Bool)) → AreSets number count sets → AreEven sets
sets_even number count sets are c d lt below =
    are.each c (subst (λ n. c < n) are.len lt) ∙ sym (are.each d (subst (λ n. d < n) are.len below))

-- a vertex that isn't listed adds nothing
pub adds_no_start : (tops : List Vertex) (v : Vertex) (component : ℕ) (sets : List (List Bool)) → ¬ Contains tops v
    → AddsStart tops v component sets sets
adds_no_start tops v component sets lacks = record {
  len = refl;
  lens = λ c. refl;
  each = λ c r. (
    (λ has. inl has),
    (λ either. elim either [
      | inl own ↦ own
      | inr (same, top) ↦ absurd (lacks (contains_at tops v r top))
    ]),
  );
}

module _ (tops : List Vertex) (v : Vertex) (component number : ℕ) (old : List (List Bool)) (differ : Differ tops)
    (at : slice_get tops number ≡ Some v) (within : component < length old) (len : length (set_at old component) ≡ length tops) where
  -- the set with the number
  abbrev grown : List Bool
  grown = slice_set (set_at old component) number true

  abbrev all : List (List Bool)
  all = slice_set old component grown

  started : (c r : ℕ) → IsMember (set_at all c) r → IsMember (set_at old c) r ⊎ ((c ≡ component) × (slice_get tops r ≡ Some v))
  started c r has = elim (cases_eq c component) [
    | inl same ↦ (
        let own : IsMember grown r = subst (λ z. IsMember z r) (put_same old component grown within)
        (subst (λ k. IsMember (set_at all k) r) same has) in
        elim (IsMember-insert (set_at old component) number r own) [
          | inl old_one ↦ inl (subst (λ k. IsMember (set_at old k) r) (sym same) old_one)
          | inr equal ↦ inr (same, subst (λ k. slice_get tops k ≡ Some v) (sym equal) at)
        ]
        )
    | inr other ↦ inl (subst (λ z. IsMember z r) (put_other old component grown within c other) has)
  ]

  in_grown : (r : ℕ) → IsMember (set_at old component) r ⊎ (slice_get tops r ≡ Some v) → IsMember grown r
  in_grown r (inl own) = IsSubset-insert (set_at old component) number r own
  in_grown r (inr top) =
      let inside = slice_get_within tops number v at in
      subst (λ z. IsMember grown z) (differ v number r at top)
      (IsMember-insert_same (set_at old component) number (subst (λ n. number < n) (sym len) inside))

  in_all : (c r : ℕ) → c ≡ component → IsMember grown r → IsMember (set_at all c) r
  in_all c r same has =
      subst (λ k. IsMember (set_at all k) r) (sym same) (subst (λ z. IsMember z r) (sym (put_same old component grown within)) has)

  starting : (c r : ℕ) → IsMember (set_at old c) r ⊎ ((c ≡ component) × (slice_get tops r ≡ Some v)) → IsMember (set_at all c) r
  starting c r (inl own) = elim (cases_eq c component) [
    | inl same ↦ in_all c r same (in_grown r (inl (subst (λ k. IsMember (set_at old k) r) same own)))
    | inr other ↦ subst (λ z. IsMember z r) (sym (put_other old component grown within c other)) own
  ]
  starting c r (inr (same, top)) = in_all c r same (in_grown r (inr top))

  -- one that is adds its number
  pub adds_start_at : AddsStart tops v component old all
  adds_start_at = record {
    len = length-set old component grown;
    lens = put_lens old component grown within (length-set (set_at old component) number true);
    each = λ c r. (started c r, starting c r);
  }
