-- Places that are met without reading: each that is met is reached, and each that is reached is met.
use Rattle.std.proofs.Common.{◌≡◌, ℕ, zero, suc, ◌+◌, ◌-◌, ◌≤◌, ◌<◌, ◌⊎◌, List, [], ◌∷◌, ◌++◌, refl, sym, ◌∙◌, ap, subst, arith}
use Rattle.std.proofs.Common.{inl, inr, None, length, get_or}
use Rattle.std.proofs.Common.{take, length-append, append_assoc, append-nil}
use Rattle.std.specs.Prelude.{slice_get, Contains, ◌↔◌, IfOk, Result, Ok, Err}
use Rattle.std.proofs.lemmas.Bool.{cases_lt}
use Rattle.std.proofs.lemmas.List.{get_or_append_left, get_or_default, take_all}
use Rattle.std.proofs.lemmas.List.Elements.{Contains-append_left, Contains-get_or, Contains-push, Contains-push_cases}
use Rattle.std.proofs.lemmas.Option.{slice_get_within}
use Rattle.wb_lemmas.proofs.Elements.{all_from_contained}
use Rattle.wb_lemmas.proofs.Places.{at_within}
use Rattle.wb_regex.specs.declared.node.RegexNode.{RegexNode}
use Rattle.wb_regex.specs.declared.node.RegexNode.TheVariants as n
use Rattle.wb_automata_positions.specs.declared.places.Place.{Place}
use Rattle.wb_automata_positions.specs.declared.places.Place.TheVariants as p
use Rattle.wb_automata_positions.specs.declared.tables.Tables.{Tables}
use Rattle.wb_automata_positions.specs.NodePlaces.{Reaches, stays, goes, place_in, place_of}
use Rattle.wb_automata_positions.specs.Places.{GoesOn}
use Rattle.wb_automata_positions.specs.Rising.{AreRising}
use Rattle.wb_automata_positions.specs.Transitions.{IsLeaf, IsPlaceList, IsReached, entry_of}
use Rattle.wb_automata_positions.specs.Inner.Machines.{IsPlaceAt}
use Rattle.wb_automata_positions.specs.Inner.Closures.{Adds, Closes, IsEntry}
use Rattle.wb_automata_positions.proofs.MachineLemmas.{taken, none_taken}

pub none_in : (q : ℕ) → Contains [] q → ⊥
none_in q (k, lt, is) = absurd (omega arith)

pub nothing_at : {X : Type 0} (xs : List X) (i : ℕ) → length xs ≤ i → slice_get xs i ≡ None
nothing_at [] i le = refl
nothing_at (x ∷ xs) zero le = absurd (omega arith)
nothing_at (x ∷ xs) (suc i) le = nothing_at xs i (omega arith)

-- what the code says of a place says what is there
pub place_is : (nodes : List RegexNode) (next : List ℕ) (i : ℕ) (place : Place) → IsPlaceAt nodes next i place
    → place ≡ place_of nodes next i
place_is nodes next i place h = elim (cases_lt i (length nodes)) [
  | inl early ↦
      let (node, at) = at_within nodes i early in
      h.first node at ∙ sym (ap (λ z. place_in z (slice_get nodes (i - length nodes)) (get_or next i 0) (get_or next (i - length nodes) 0)
      (i - length nodes - length nodes)) at)
  | inr past ↦ elim (cases_lt (i - length nodes) (length nodes)) [
    | inl late ↦
        let (node, at) = at_within nodes (i - length nodes) late in
        h.again (i - length nodes) node (omega arith) at ∙ sym
        (ap (λ z. place_in z (slice_get nodes (i - length nodes)) (get_or next i 0) (get_or next (i - length nodes) 0)
        (i - length nodes - length nodes)) (nothing_at nodes i past) ∙ ap (λ z. place_in None z (get_or next i 0)
        (get_or next (i - length nodes) 0) (i - length nodes - length nodes)) at)
    | inr last ↦ h.end (i - length nodes - length nodes) (omega arith) ∙ sym
        (ap (λ z. place_in z (slice_get nodes (i - length nodes)) (get_or next i 0) (get_or next (i - length nodes) 0)
        (i - length nodes - length nodes)) (nothing_at nodes i past) ∙ ap (λ z. place_in None z (get_or next i 0)
        (get_or next (i - length nodes) 0) (i - length nodes - length nodes)) (nothing_at nodes (i - length nodes) last))
  ]
]

-- and the other way round
pub is_place : (nodes : List RegexNode) (next : List ℕ) (i : ℕ) → IsPlaceAt nodes next i (place_of nodes next i)
is_place nodes next i = record {
  first = λ node at. ap (λ z. place_in z (slice_get nodes (i - length nodes)) (get_or next i 0) (get_or next (i - length nodes) 0)
      (i - length nodes - length nodes)) at;
  again = λ j node e at.
      let past : slice_get nodes i ≡ None = nothing_at nodes i (omega arith) in
      let f : i - length nodes ≡ j = omega arith in
      ap (λ z. place_in z (slice_get nodes (i - length nodes)) (get_or next i 0) (get_or next (i - length nodes) 0)
      (i - length nodes - length nodes)) past ∙ ap (λ z. place_in None (slice_get nodes z) (get_or next i 0) (get_or next z 0)
      (z - length nodes)) f ∙ ap (λ z. place_in None z (get_or next i 0) (get_or next j 0) (j - length nodes)) at;
  end = λ k e.
      let past : slice_get nodes i ≡ None = nothing_at nodes i (omega arith) in
      let past' : slice_get nodes (i - length nodes) ≡ None = nothing_at nodes (i - length nodes) (omega arith) in
      let f : i - length nodes - length nodes ≡ k = omega arith in
      ap (λ z. place_in z (slice_get nodes (i - length nodes)) (get_or next i 0) (get_or next (i - length nodes) 0)
      (i - length nodes - length nodes)) past ∙ ap (λ z. place_in None z (get_or next i 0) (get_or next (i - length nodes) 0)
      (i - length nodes - length nodes)) past' ∙ ap (λ z. p.End z) f;
}

-- lists that go on
pub adds_none : (wanted : ℕ → Type 0) (old : List ℕ) → ((d : ℕ) → wanted d → Contains old d) → Adds wanted old old
adds_none wanted old has = record {
  more = [];
  extends = sym (append-nil old);
  exact = λ d. (λ h. inl h, λ h. elim h [ inl was ↦ was | inr want ↦ has d want ]);
}

pub adds_one : (old new : List ℕ) (x : ℕ) → new ≡ old ++ x ∷ [] → Adds (λ d. d ≡ x) old new
adds_one old new x e = record {
  more = x ∷ [];
  extends = e;
  exact = λ d. subst (λ z. Contains z d ↔ (Contains old d ⊎ (d ≡ x))) (sym e) (
    λ h. elim (Contains-push_cases old x d h) [ inl was ↦ inl was | inr same ↦ inr (sym same) ],
    λ h. elim h [
      | inl was ↦ Contains-append_left old (x ∷ []) d was
      | inr same ↦ subst (Contains (old ++ x ∷ [])) (sym same) (Contains-push old x)
    ],
  );
}

pub adds_both : (V W : ℕ → Type 0) (a b c : List ℕ) → Adds V a b → Adds W b c → Adds (λ d. V d ⊎ W d) a c
adds_both V W a b c h k = record {
  more = h.more ++ k.more;
  extends = k.extends ∙ ap (λ z. z ++ k.more) h.extends ∙ append_assoc a h.more k.more;
  exact = λ d. (
    λ has. elim ((k.exact d).0 has) [
      | inl b' ↦ elim ((h.exact d).0 b') [ inl was ↦ inl was | inr v ↦ inr (inl v) ]
      | inr w ↦ inr (inr w)
    ],
    λ has. (k.exact d).1 (elim has [
      | inl was ↦ inl ((h.exact d).1 (inl was))
      | inr vw ↦ elim vw [ inl v ↦ inl ((h.exact d).1 (inr v)) | inr w ↦ inr w ]
    ]),
  );
}

pub adds_as : (V W : ℕ → Type 0) (a b : List ℕ) → ((d : ℕ) → V d ↔ W d) → Adds V a b → Adds W a b
adds_as V W a b same h = record {
  more = h.more;
  extends = h.extends;
  exact = λ d. (
    λ has. elim ((h.exact d).0 has) [ inl was ↦ inl was | inr v ↦ inr ((same d).0 v) ],
    λ has. (h.exact d).1 (elim has [ inl was ↦ inl was | inr w ↦ inr ((same d).1 w) ]),
  );
}

-- what is wanted of the first i numbers of a list
pub record OfFirst (W : ℕ → ℕ → Type 0) (xs : List ℕ) (i d : ℕ) : Type 0 where
  pub from : ℕ
  pub has : Contains (take i xs) from
  pub is : W from d

pub first_none : (W : ℕ → ℕ → Type 0) (xs old : List ℕ) → Adds (OfFirst W xs 0) old old
first_none W xs old = adds_none (OfFirst W xs 0) old (λ d o. absurd (none_taken xs o.from o.has))

pub first_more : (W : ℕ → ℕ → Type 0) (xs old mid new : List ℕ) (i : ℕ) → i < length xs → Adds (W (get_or xs i 0)) mid new
    → Adds (OfFirst W xs i) old mid → Adds (OfFirst W xs (i + 1)) old new
first_more W xs old mid new i lt a h =
    adds_as (λ d. OfFirst W xs i d ⊎ W (get_or xs i 0) d) (OfFirst W xs (i + 1)) old new (λ d. (
      λ vw. elim vw [
        | inl o ↦ record { from = o.from; has = (taken xs i o.from lt).1 (inl o.has); is = o.is }
        | inr w ↦ record { from = get_or xs i 0; has = (taken xs i (get_or xs i 0) lt).1 (inr refl); is = w }
      ],
      λ o. elim ((taken xs i o.from lt).0 o.has) [
        | inl was ↦ inl (record { from = o.from; has = was; is = o.is })
        | inr same ↦ inr (subst (λ z. W z d) (sym same) o.is)
      ],
    )) (adds_both (OfFirst W xs i) (W (get_or xs i 0)) old mid new h a)

pub first_all : (W : ℕ → ℕ → Type 0) (V : ℕ → Type 0) (xs old new : List ℕ) (i : ℕ) → length xs ≤ i →
    ((d : ℕ) → ((from : ℕ) → Contains xs from → W from d → V d)) → ((d : ℕ) → V d → OfFirst W xs (length xs) d)
    → Adds (OfFirst W xs i) old new → Adds V old new
first_all W V xs old new i le to from h = adds_as (OfFirst W xs i) V old new (λ d. (
  λ o. to d o.from (subst (λ z. Contains z o.from) (take_all i xs le) o.has) o.is,
  λ v. let o = from d v in record {
    from = o.from;
    has = subst (λ z. Contains z o.from) (sym (take_all i xs le))
        (subst (λ z. Contains z o.from) (take_all (length xs) xs (omega arith)) o.has);
    is = o.is;
  },
)) h

pub of_all : (W : ℕ → ℕ → Type 0) (xs : List ℕ) (from d : ℕ) → Contains xs from → W from d → OfFirst W xs (length xs) d
of_all W xs from d has is =
    record { from = from; has = subst (λ z. Contains z from) (sym (take_all (length xs) xs (omega arith))) has; is = is }

-- one goes on from a place that is reached
pub reaches_more : {nodes : List RegexNode} {next : List ℕ} {i j : ℕ} (d : ℕ) → Reaches nodes next i j → GoesOn (place_of nodes next j) d
    → Reaches nodes next i d
reaches_more {nodes} {next} {i} {j} d (stays e) g = goes d (subst (λ z. GoesOn (place_of nodes next z) d) e g) (stays refl)
reaches_more {nodes} {next} {i} {j} d (goes q h r) g = goes q h (reaches_more d r g)

-- the list is closed, place by place
pub closes_begin : (nodes : List RegexNode) (next old : List ℕ) → Closes nodes next old old 0
closes_begin nodes next old = record {
  more = [];
  extends = sym (append-nil old);
  sound = λ d has. record { from = d; has = has; reaches = stays refl };
  within = omega arith;
  closed = λ k d lt. absurd (omega arith);
}

pub closes_more : (nodes : List RegexNode) (next old mid new : List ℕ) (i : ℕ) → i < length mid
    → Adds (GoesOn (place_of nodes next (get_or mid i 0))) mid new → Closes nodes next old mid i → Closes nodes next old new (i + 1)
closes_more nodes next old mid new i lt a h = record {
  more = h.more ++ a.more;
  extends = a.extends ∙ ap (λ z. z ++ a.more) h.extends ∙ append_assoc old h.more a.more;
  sound = λ d has. elim ((a.exact d).0 has) [
    | inl was ↦ h.sound d was
    | inr on ↦
        let b = h.sound (get_or mid i 0) (Contains-get_or mid i 0 lt) in
        record { from = b.from; has = b.has; reaches = reaches_more d b.reaches on }
  ];
  within = omega (arith, ap length a.extends, length-append mid a.more);
  closed = λ k d less on. elim (cases_lt k i) [
    | inl early ↦ (a.exact d).1 (inl (h.closed k d early
        (subst (λ z. GoesOn (place_of nodes next z) d) (same k (omega arith)) on)))
    | inr late ↦
        let e : k ≡ i = omega arith in
        (a.exact d).1 (inr (subst (λ z. GoesOn (place_of nodes next z) d) (same k (omega arith) ∙ ap (λ z. get_or mid z 0) e) on))
  ];
}
  where
    same : (k : ℕ) → k < length mid → get_or new k 0 ≡ get_or mid k 0
    same k less = ap (λ z. get_or z k 0) a.extends ∙ get_or_append_left mid a.more 0 k less

pub closes_end : (nodes : List RegexNode) (next old new : List ℕ) (i : ℕ) → length new ≤ i → Closes nodes next old new i
    → Closes nodes next old new (length new)
closes_end nodes next old new i le h =
    subst (Closes nodes next old new) (let w = h.within in let e : i ≡ length new = omega arith in e) h

-- so whatever is reached is met
closed_all : (nodes : List RegexNode) (next old new : List ℕ) → Closes nodes next old new (length new) → {i j : ℕ}
    → Reaches nodes next i j → Contains new i → Contains new j
closed_all nodes next old new h {i} {j} (stays e) has = subst (Contains new) (sym e) has
closed_all nodes next old new h {i} {j} (goes q g r) (k, lt, is) =
    let e : get_or new k 0 ≡ i = get_or_default new k 0 i lt ∙ is in
    closed_all nodes next old new h r (h.closed k q lt (subst (λ z. GoesOn (place_of nodes next z) q) (sym e) g))

pub closure_exact : (t : Tables) (set mid met : List ℕ) → Adds (IsEntry t set) [] mid
    → Closes t.nodes.items t.next.items mid met (length met) → (d : ℕ) → Contains met d ↔ IsReached t set d
closure_exact t set mid met a h d = (
  λ has.
      let b = h.sound d has in
      elim ((a.exact b.from).0 b.has) [
        | inl was ↦ absurd (none_in b.from was)
        | inr e ↦ record { from = e.from; has = e.has; reaches = subst (λ z. Reaches t.nodes.items t.next.items z d) e.is b.reaches }
      ],
  λ r.
      let first : Contains mid (entry_of t r.from) = (a.exact (entry_of t r.from)).1
      (inr (record { from = r.from; has = r.has; is = refl })) in
      closed_all t.nodes.items t.next.items mid met h r.reaches
      (subst (λ z. Contains z (entry_of t r.from)) (sym h.extends) (Contains-append_left mid h.more (entry_of t r.from) first)),
)

-- leaves are places of nodes
pub leaf_places : (nodes : List RegexNode) (met all : List ℕ) → ((q : ℕ) → Contains all q ↔ (IsLeaf nodes q × Contains met q))
    → AreRising all → IsPlaceList (length nodes) all
leaf_places nodes met all is rise = record {
  below = all_from_contained (λ p. p < length nodes) all
      (λ q has. let (leaf, there) = (is q).0 has in slice_get_within nodes q (n.Set leaf.words) leaf.at);
  rising = rise;
}

pub adds_pushed : {E : Type 0} (old new : List ℕ) (x : ℕ) (r : Result (Unit {0}) E) → IfOk r (λ _. new ≡ old ++ x ∷ []) → IfOk r
    (λ _. Adds (λ d. d ≡ x) old new)
adds_pushed old new x (Ok _) e = adds_one old new x e
adds_pushed old new x (Err _) e = tt
