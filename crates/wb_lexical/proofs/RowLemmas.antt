-- Relations between terminals as rows of sets: what a change of one row adds, and how a relation grows.
use Rattle.std.proofs.Common.{◌≡◌, ℕ, ◌+◌, ◌<◌, ◌≤◌, ◌⊎◌, Bool, false, List, [], length, get_or, set, replicate, Option, Some, refl, sym}
use Rattle.std.proofs.Common.{◌∙◌, ap, subst}
use Rattle.std.proofs.Common.{inl, inr, arith, get_or-set_same, get_or-set_other}
use Rattle.std.specs.Prelude.{slice_get, ◌↔◌}
use Rattle.std.proofs.lemmas.Bool.{cases_eq, cases_lt}
use Rattle.std.proofs.lemmas.List.{length-set, length-replicate, get_or-replicate}
use Rattle.std.proofs.lemmas.List.Elements.{All-get_or, All-set}
use Rattle.std.proofs.lemmas.Option.{slice_get_within}
use Rattle.wb_lemmas.proofs.Members.{contains_at, place_of}
use Rattle.wb_lemmas.proofs.Places.{at_once}
use Rattle.wb_termset.specs.Sets.{IsMember, IsNextMember, HasNoneFrom}
use Rattle.wb_termset.proofs.CallerLemmas.{IsEmpty-replicate}
use Rattle.wb_automata.specs.Automata.{IsConsidered}
use Rattle.wb_lexical.specs.Clash.{AreOrdered}
use Rattle.wb_lexical.specs.Inner.Rows.{HaveWidth, Take, HoldPairs, AreTogetherBelow, AreTogether, AreOrderedBelow, AreThese}

-- nothing more
pub take_none : (New : ℕ → ℕ → Type 0) (rows : List (List Bool)) → ((t u : ℕ) → t < length rows → u < length rows → ¬ New t u)
    → Take New rows rows
take_none New rows never = record {
  len = refl;
  widths = λ h. h;
  each = λ t u lt lu. (λ has. inl has, λ either. elim either [ inl before ↦ before | inr fresh ↦ absurd (never t u lt lu fresh) ]);
}

-- one after another
pub take_then : (P Q R : ℕ → ℕ → Type 0) (old mid new : List (List Bool)) → Take P old mid → Take Q mid new
    → ((t u : ℕ) → R t u ↔ (P t u ⊎ Q t u)) → Take R old new
take_then P Q R old mid new one two both = record {
  len = two.len ∙ one.len;
  widths = λ h. subst (λ n. HaveWidth n new) one.len (two.widths (subst (λ n. HaveWidth n mid) (sym one.len) (one.widths h)));
  each = λ t u lt lu. (
    λ has. elim ((two.each t u (here t lt) (here u lu)).0 has) [
      | inl before ↦ elim ((one.each t u lt lu).0 before) [
        | inl first ↦ inl first
        | inr p ↦ inr ((both t u).1 (inl p))
      ]
      | inr q ↦ inr ((both t u).1 (inr q))
    ],
    λ either. elim either [
      | inl first ↦ (two.each t u (here t lt) (here u lu)).1 (inl ((one.each t u lt lu).1 (inl first)))
      | inr r ↦ elim ((both t u).0 r) [
        | inl p ↦ (two.each t u (here t lt) (here u lu)).1 (inl ((one.each t u lt lu).1 (inr p)))
        | inr q ↦ (two.each t u (here t lt) (here u lu)).1 (inr q)
      ]
    ],
  );
}
  where
    here : (k : ℕ) → k < length old → k < length mid
    here k lt = omega (arith, lt, one.len)

-- the same by another condition
pub take_same : (P R : ℕ → ℕ → Type 0) (old new : List (List Bool)) → Take P old new → ((t u : ℕ) → R t u ↔ P t u) → Take R old new
take_same P R old new one both = record {
  len = one.len;
  widths = one.widths;
  each = λ t u lt lu. (
    λ has. elim ((one.each t u lt lu).0 has) [ inl before ↦ inl before | inr p ↦ inr ((both t u).1 p) ],
    λ either. elim either [
      | inl before ↦ (one.each t u lt lu).1 (inl before)
      | inr r ↦ (one.each t u lt lu).1 (inr ((both t u).0 r))
    ],
  );
}

-- more in one row
pub take_row : (old new : List (List Bool)) (k : ℕ) (New : ℕ → Type 0) (row : List Bool) → k < length old → HaveWidth (length old) old
    → new ≡ set old k row → length row ≡ length (get_or old k [])
    → ((u : ℕ) → u < length (get_or old k []) → IsMember row u ↔ (IsMember (get_or old k []) u ⊎ New u))
    → Take (λ t u. (t ≡ k) × New u) old new
take_row old new k New row lt wide is len exact = record {
  len = ap length is ∙ length-set old k row;
  widths = λ h. subst (HaveWidth (length old)) (sym is) (All-set (λ s. length s ≡ length old) old k row (len ∙ width) h);
  each = λ t u lt' lu. elim (cases_eq t k) [
    | inl same ↦ (
      λ has. elim ((exact u (below u lu)).0 (subst (λ z. IsMember z u) (here t same) has)) [
        | inl before ↦ inl (subst (λ z. IsMember (get_or old z []) u) (sym same) before)
        | inr fresh ↦ inr (same, fresh)
      ],
      λ either. subst (λ z. IsMember z u) (sym (here t same)) (elim either [
        | inl before ↦ (exact u (below u lu)).1 (inl (subst (λ z. IsMember (get_or old z []) u) same before))
        | inr (_, fresh) ↦ (exact u (below u lu)).1 (inr fresh)
      ]),
    )
    | inr other ↦ (
      λ has. inl (subst (λ z. IsMember z u) (there t other) has),
      λ either. elim either [
        | inl before ↦ subst (λ z. IsMember z u) (sym (there t other)) before
        | inr (same, _) ↦ absurd (other same)
      ],
    )
  ];
}
  where
    width : length (get_or old k []) ≡ length old
    width = All-get_or (λ (s : List Bool). length s ≡ length old) old k [] lt wide

    below : (u : ℕ) → u < length old → u < length (get_or old k [])
    below u lu = omega (arith, lu, width)

    here : (t : ℕ) → t ≡ k → get_or new t [] ≡ row
    here t same = ap (λ z. get_or z t []) is ∙ ap (λ z. get_or (set old k row) z []) same ∙ get_or-set_same old k row [] lt

    there : (t : ℕ) → (t ≡ k → ⊥) → get_or new t [] ≡ get_or old t []
    there t ne = ap (λ z. get_or z t []) is ∙ get_or-set_other old k t row [] ne

-- rows that took pairs have room as before
pub taken_square : (P : ℕ → ℕ → Type 0) (old new : List (List Bool)) → HaveWidth (length old) old → Take P old new
    → HaveWidth (length new) new
taken_square P old new wide take = subst (λ n. HaveWidth n new) (sym take.len) (take.widths wide)

-- a set was united with the rows of its members below a number
abbrev pub MembersBelow : List Bool → ℕ → ℕ → ℕ → Type 0
MembersBelow set from t u = (t < from) × IsMember set t × IsMember set u

-- one member more
pub member_more : (set : List Bool) (from q t u : ℕ) → IsNextMember set from q
    → MembersBelow set (q + 1) t u ↔ (MembersBelow set from t u ⊎ ((t ≡ q) × IsMember set u))
member_more set from q t u next = (
  λ (lt, has, other). elim (cases_lt t from) [
    | inl early ↦ inl (early, has, other)
    | inr late ↦ elim (cases_lt t q) [
      | inl between ↦ absurd (next.least t late between has)
      | inr past ↦ inr ((let e : t ≡ q = omega (arith, lt, past) in e), other)
    ]
  ],
  λ either. elim either [
    | inl (lt, has, other) ↦ ((let le = next.from_on in omega (arith, lt, le)), has, other)
    | inr (same, other) ↦ (omega (arith, same), subst (IsMember set) (sym same) next.member, other)
  ],
)

-- all members
pub member_all : (set : List Bool) (from t u : ℕ) → HasNoneFrom set from → (IsMember set t × IsMember set u) ↔ MembersBelow set from t u
member_all set from t u past = (
  λ (has, other). (elim (cases_lt t from) [ inl lt ↦ lt | inr le ↦ absurd (past t le has) ], has, other),
  λ (lt, has, other). (has, other),
)

-- no row has a member at first
pub hold_none : (count : ℕ) (P : ℕ → ℕ → Type 0) (rows : List (List Bool)) → rows ≡ replicate count (replicate count false)
    → ((t u : ℕ) → ¬ P t u) → HoldPairs count P rows
hold_none count P rows is never = subst (HoldPairs count P) (sym is) (record {
  len = length-replicate count (replicate count false);
  widths = λ i d lt. ap length (get_or-replicate count i (replicate count false) d (below i lt)) ∙ length-replicate count false;
  each = λ t u lt lu. (
    λ has. absurd (IsEmpty-replicate count u (subst (λ z. IsMember z u) (get_or-replicate count t (replicate count false) [] lt) has)),
    λ p. absurd (never t u p),
  );
})
  where
    below : (i : ℕ) → i < length (replicate count (replicate count false)) → i < count
    below i lt = omega (arith, lt, length-replicate count (replicate count false))

-- what is taken is held
pub hold_more : (count : ℕ) (P Q R : ℕ → ℕ → Type 0) (old new : List (List Bool)) → HoldPairs count P old → Take Q old new
    → ((t u : ℕ) → R t u ↔ (P t u ⊎ Q t u)) → HoldPairs count R new
hold_more count P Q R old new hold take both = record {
  len = take.len ∙ hold.len;
  widths = subst (λ n. HaveWidth n new) hold.len (take.widths (subst (λ n. HaveWidth n old) (sym hold.len) hold.widths));
  each = λ t u lt lu. (
    λ has. elim ((take.each t u (here t lt) (here u lu)).0 has) [
      | inl before ↦ (both t u).1 (inl ((hold.each t u lt lu).0 before))
      | inr q ↦ (both t u).1 (inr q)
    ],
    λ r. elim ((both t u).0 r) [
      | inl p ↦ (take.each t u (here t lt) (here u lu)).1 (inl ((hold.each t u lt lu).1 p))
      | inr q ↦ (take.each t u (here t lt) (here u lu)).1 (inr q)
    ],
  );
}
  where
    here : (k : ℕ) → k < count → k < length old
    here k lt = omega (arith, lt, hold.len)

-- the same by another relation
pub hold_same : (count : ℕ) (P R : ℕ → ℕ → Type 0) (rows : List (List Bool)) → HoldPairs count P rows → ((t u : ℕ) → P t u ↔ R t u)
    → HoldPairs count R rows
hold_same count P R rows hold both = record {
  len = hold.len;
  widths = hold.widths;
  each = λ t u lt lu. (
    λ has. (both t u).0 ((hold.each t u lt lu).0 has),
    λ r. (hold.each t u lt lu).1 ((both t u).1 r),
  );
}

-- rows have room for what they hold
pub square : (count : ℕ) (P : ℕ → ℕ → Type 0) (rows : List (List Bool)) → HoldPairs count P rows → HaveWidth (length rows) rows
square count P rows hold = subst (λ n. HaveWidth n rows) (sym hold.len) hold.widths

-- one set more
pub together_more : (sets : List (List Bool)) (i : ℕ) (flags : List Bool) → slice_get sets i ≡ Some flags → (t u : ℕ)
    → AreTogetherBelow sets (i + 1) t u ↔ (AreTogetherBelow sets i t u ⊎ (IsMember flags t × IsMember flags u))
together_more sets i flags at t u = (
  λ (k, lt, left, right). elim (cases_lt k i) [
    | inl early ↦ inl (k, early, left, right)
    | inr late ↦
        let here : k ≡ i = omega (arith, lt, late) in
        inr (member k here t left, member k here u right)
  ],
  λ either. elim either [
    | inl (k, lt, left, right) ↦ (k, omega (arith, lt), left, right)
    | inr (left, right) ↦ (
      i,
      omega arith,
      record { flags = flags; at = at; has = left },
      record { flags = flags; at = at; has = right },
    )
  ],
)
  where
    member : (k : ℕ) → k ≡ i → (x : ℕ) → IsConsidered sets k x → IsMember flags x
    member k here x is =
        subst (λ z. IsMember z x) (at_once sets i is.flags flags (subst (λ z. slice_get sets z ≡ Some is.flags) here is.at) at) is.has

-- all sets
pub together_all : (sets : List (List Bool)) (i : ℕ) → length sets ≤ i → (t u : ℕ)
    → AreTogetherBelow sets i t u ↔ AreTogether sets t u
together_all sets i past t u = (
  λ (k, lt, left, right). (k, left, right),
  λ (k, left, right). (k, (let lt = slice_get_within sets k left.flags left.at in omega (arith, lt, past)), left, right),
)

-- one preference more
pub ordered_more : (preferences : List (ℕ × ℕ)) (i : ℕ) (p : ℕ × ℕ) → slice_get preferences i ≡ Some p → (t u : ℕ)
    → AreOrderedBelow preferences (i + 1) t u ↔ (AreOrderedBelow preferences i t u ⊎ AreThese p.0 p.1 t u)
ordered_more preferences i p at t u = (
  λ (k, lt, either). elim (cases_lt k i) [
    | inl early ↦ inl (k, early, either)
    | inr late ↦ inr (these k (omega (arith, lt, late)) either)
  ],
  λ either. elim either [
    | inl (k, lt, named) ↦ (k, omega (arith, lt), named)
    | inr (inl (one, other)) ↦ (i, omega arith, inl (at ∙ pair p t u one other))
    | inr (inr (one, other)) ↦ (i, omega arith, inr (at ∙ pair p u t other one))
  ],
)
  where
    pair : (q : ℕ × ℕ) (x y : ℕ) → x ≡ q.0 → y ≡ q.1 → Some q ≡ Some (x, y)
    pair (a, b) x y one other =
        subst (λ (k : ℕ). ◌≡◌ {A = Option (ℕ × ℕ)} (Some (a, b)) (Some (k, y))) (sym one)
        (subst (λ (k : ℕ). ◌≡◌ {A = Option (ℕ × ℕ)} (Some (a, b)) (Some (a, k))) (sym other) refl)

    these : (k : ℕ) → k ≡ i → (slice_get preferences k ≡ Some (t, u)) ⊎ (slice_get preferences k ≡ Some (u, t)) → AreThese p.0 p.1 t u
    these k here (inl named) =
        let e = at_once preferences i (t, u) p (subst (λ z. slice_get preferences z ≡ Some (t, u)) here named) at in
        inl (ap (λ z. z.0) e, ap (λ z. z.1) e)
    these k here (inr named) =
        let e = at_once preferences i (u, t) p (subst (λ z. slice_get preferences z ≡ Some (u, t)) here named) at in
        inr (ap (λ z. z.1) e, ap (λ z. z.0) e)

-- all preferences
pub ordered_all : (preferences : List (ℕ × ℕ)) (i : ℕ) → length preferences ≤ i → (t u : ℕ)
    → AreOrderedBelow preferences i t u ↔ AreOrdered preferences t u
ordered_all preferences i past t u = (
  λ (k, lt, either). elim either [
    | inl named ↦ inl (contains_at preferences (t, u) k named)
    | inr named ↦ inr (contains_at preferences (u, t) k named)
  ],
  λ either. elim either [
    | inl named ↦ (let (k, at) = place_of preferences (t, u) named in (k, below k (t, u) at, inl at))
    | inr named ↦ (let (k, at) = place_of preferences (u, t) named in (k, below k (u, t) at, inr at))
  ],
)
  where
    below : (k : ℕ) (x : ℕ × ℕ) → slice_get preferences k ≡ Some x → k < i
    below k x at = let lt = slice_get_within preferences k x at in omega (arith, lt, past)
