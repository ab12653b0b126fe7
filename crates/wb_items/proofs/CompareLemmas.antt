-- The order of sets of items, and how two sets are compared item by item.
use Rattle.std.proofs.Common.{◌≡◌, ℕ, ◌+◌, ◌-◌, ◌≤◌, ◌⊎◌, List, length, Some, None, sym, ◌∙◌, subst, inl, inr, arith}
use Rattle.std.specs.Prelude.{slice_get, slice_index_or, Contains, ◌↔◌}
use Rattle.std.proofs.lemmas.Option.{slice_get_within, slice_get-get_or}
use Rattle.std.proofs.lemmas.Bool.{cases_eq, cases_lt}
use Rattle.wb_lemmas.proofs.Places.{at_once}
use Rattle.wb_lemmas.proofs.Members.{contains_at, place_of}
use Rattle.wb_grammar_theory.specs.declared.item.Item.{Item}
use Rattle.wb_items.specs.Kernels.{Precedes, AreInOrder}
use Rattle.wb_items.specs.Inner.Searches.{IsAfter, IsLeastAfter, AgreeUpTo}
use Rattle.wb_items.specs.KernelOrder.{ComesFirst}
use Rattle.wb_items.specs.Table.{SameItems}
use Rattle.wb_items.proofs.OrderLemmas.{compared, ahead, alike, follows, precedes_then, not_itself}

-- no set comes before one with the same items
pub first_not_same : (one other : List Item) → ComesFirst one other → SameItems one other → ⊥
first_not_same one other h same = h.lacks ((same h.item).0 h.has)

-- nor the other way around
pub first_not_turned : (one other : List Item) → ComesFirst one other → SameItems other one → ⊥
first_not_turned one other h same = h.lacks ((same h.item).1 h.has)

-- the order is transitive
pub first_then : (one two three : List Item) → ComesFirst one two → ComesFirst two three → ComesFirst one three
first_then one two three p q = elim (compared p.item q.item) [
  | ahead lt ↦ record {
    item = p.item;
    has = p.has;
    lacks = λ k. p.lacks ((q.below p.item lt).1 k);
    below = λ z less. (let r =
        q.below z (precedes_then z p.item q.item less lt) in (λ k. r.0 ((p.below z less).0 k), λ k. (p.below z less).1 (r.1 k)));
  }
  | alike is ↦ absurd (p.lacks (subst (Contains two) (sym is) q.has))
  | follows gt ↦ record {
    item = q.item;
    has = (p.below q.item gt).1 q.has;
    lacks = q.lacks;
    below = λ z less. (let r =
        p.below z (precedes_then z q.item p.item less gt) in (λ k. (q.below z less).0 (r.0 k), λ k. r.1 ((q.below z less).1 k)));
  }
]

-- an item is after the first places or not
pub after_or_not : (kernel : List Item) (place : ℕ) (z : Item) → place ≤ length kernel → IsAfter kernel place z ⊎ (¬ IsAfter kernel place z)
after_or_not kernel place z le = elim (cases_eq place 0) [
  | inl none_before ↦ inl (λ m a e at. absurd (omega arith))
  | inr some_before ↦
      let m = place - 1 in
      let last = slice_index_or kernel m z in
      let here : slice_get kernel m ≡ Some last = slice_get-get_or kernel m z (omega arith) in
      let e : place ≡ m + 1 = omega arith in
      elim (compared last z) [
        | ahead lt ↦ inl (λ n a f at. subst (λ y. Precedes y z)
            (at_once kernel m last a here (subst (λ k. slice_get kernel k ≡ Some a) (let g : n ≡ m = omega arith in g) at)) lt)
        | alike is ↦ inr (λ h. not_itself z (subst (λ y. Precedes y z) is (h m last e here)))
        | follows gt ↦ inr (λ h. not_itself z (precedes_then z last z gt (h m last e here)))
      ]
]

-- an item of the kernel that is after the first places isn't among them
pub not_among : (kernel : List Item) (place p : ℕ) (z : Item) → place ≤ length kernel → AreInOrder kernel → IsAfter kernel place z →
    slice_get kernel p ≡ Some z → place ≤ p
not_among kernel place p z le sorted h at = elim (cases_lt p place) [
  | inl lt ↦
      let m = place - 1 in
      let e : place ≡ m + 1 = omega arith in
      let last = slice_index_or kernel m z in
      let here : slice_get kernel m ≡ Some last = slice_get-get_or kernel m z (omega arith) in
      elim (cases_eq p m) [
        | inl same ↦ absurd (not_itself z (h m z e (subst (λ k. slice_get kernel k ≡ Some z) same at)))
        | inr ne ↦ absurd (not_itself z (precedes_then z last z (sorted p m z last (omega arith) at here) (h m last e here)))
      ]
  | inr ge ↦ ge
]

-- the kernel's item at a place is the least of its items after those before
pub least_here : (kernel : List Item) (place : ℕ) (k z : Item) → AreInOrder kernel → slice_get kernel place ≡ Some k →
    IsAfter kernel place z → Contains kernel z → ¬ Precedes z k
least_here kernel place k z sorted here h there less =
    let (p, at) = place_of kernel z there in
    let le = not_among kernel place p z (let lt = slice_get_within kernel place k here in omega (arith, lt)) sorted h at in
    elim (cases_eq p place) [
      | inl same ↦ not_itself k
          (subst (λ y. Precedes y k) (at_once kernel place z k (subst (λ n. slice_get kernel n ≡ Some z) same at) here) less)
      | inr ne ↦ not_itself z (precedes_then z k z less (sorted place p k z (omega (arith, le)) here at))
    ]

-- it is after them
pub here_after : (kernel : List Item) (place : ℕ) (k : Item) → AreInOrder kernel → slice_get kernel place ≡ Some k → IsAfter kernel place k
here_after kernel place k sorted here m a e at = sorted m place a k (omega arith) at here

-- of two sets that agree but for the items of a kind, the one with the least such item comes first
by_kind : (one other : List Item) (Q : Item → Type 0) → ((z : Item) → Q z ⊎ (¬ Q z)) → (x : Item) → Contains one x → ¬ Contains other x →
    ((z : Item) → Q z → Contains one z → ¬ Precedes z x) → ((z : Item) → Q z → Contains other z → ¬ Precedes z x) →
    ((z : Item) → ¬ Q z → Contains one z ↔ Contains other z) → ComesFirst one other
by_kind one other Q decide x has lacks first second agree = record {
  item = x;
  has = has;
  lacks = lacks;
  below = λ z less. elim (decide z) [
    | inl of_kind ↦ (λ k. absurd (first z of_kind k less), λ k. absurd (second z of_kind k less))
    | inr not_of ↦ agree z not_of
  ];
}

turned : (kernel items : List Item) (place : ℕ) → AgreeUpTo kernel items place → (z : Item) → ¬ IsAfter kernel place z →
    Contains items z ↔ Contains kernel z
turned kernel items place agree z h = ((agree z h).1, (agree z h).0)

-- none is after
pub none_after : (kernel : List Item) (place : ℕ) (items : List Item) → IsLeastAfter kernel place items (length items) None → (z : Item) →
    IsAfter kernel place z → ¬ Contains items z
none_after kernel place items least z h k = let (p, at) = place_of items z k in least p z (slice_get_within items p z at) at h

-- the least that is after
pub least_after : (kernel : List Item) (place : ℕ) (items : List Item) (m : Item) →
    IsLeastAfter kernel place items (length items) (Some m) → (z : Item) → IsAfter kernel place z → Contains items z → ¬ Precedes z m
least_after kernel place items m least z h k = let (p, at) = place_of items z k in least.2 p z (slice_get_within items p z at) at h

module _ (kernel items : List Item) (place : ℕ) (k : Item) (sorted : AreInOrder kernel) (here : slice_get kernel place ≡ Some k)
    (agree : AgreeUpTo kernel items place) where
  decide : (z : Item) → IsAfter kernel place z ⊎ (¬ IsAfter kernel place z)
  decide z = after_or_not kernel place z (let lt = slice_get_within kernel place k here in omega (arith, lt))

  -- the kernel has an item where the other has none
  pub kernel_goes_on : IsLeastAfter kernel place items (length items) None → ComesFirst kernel items
  kernel_goes_on least =
      let absent = none_after kernel place items least in
      by_kind kernel items (IsAfter kernel place) decide k (contains_at kernel k place here)
      (absent k (here_after kernel place k sorted here))
      (λ z h there. least_here kernel place k z sorted here h there) (λ z h there. absurd (absent z h there)) agree

  -- the kernel has the lesser item
  pub kernel_less : (m : Item) → IsLeastAfter kernel place items (length items) (Some m) → Precedes k m → ComesFirst kernel items
  kernel_less m least less =
      let bound = least_after kernel place items m least in
      by_kind kernel items (IsAfter kernel place) decide k (contains_at kernel k place here)
      (λ there. bound k (here_after kernel place k sorted here) there less)
      (λ z h there. least_here kernel place k z sorted here h there)
      (λ z h there below. bound z h there (precedes_then z k m below less)) agree

  -- the other has the lesser item
  pub items_less : (m : Item) → IsLeastAfter kernel place items (length items) (Some m) → Precedes m k → ComesFirst items kernel
  items_less m least less =
      let bound = least_after kernel place items m least in
      by_kind items kernel (IsAfter kernel place) decide m least.0 (λ there. least_here kernel place k m sorted here least.1 there less)
      bound (λ z h there below. least_here kernel place k z sorted here h there (precedes_then z m k below less))
      (turned kernel items place agree)

  -- both have the same item
  pub agree_more : (m : Item) → IsLeastAfter kernel place items (length items) (Some m) → ¬ Precedes k m → ¬ Precedes m k →
      AgreeUpTo kernel items (place + 1)
  agree_more m least not_less not_more z past = elim (compared z k) [
    | ahead lt ↦ elim (decide z) [
      | inl h ↦ (
        λ there. absurd (least_here kernel place k z sorted here h there lt),
        λ there. absurd (least_after kernel place items m least z h there (subst (Precedes z) same lt)),
      )
      | inr not_after ↦ agree z not_after
    ]
    | alike is ↦ (
      λ there. subst (Contains items) (sym (is ∙ same)) least.0,
      λ there. subst (Contains kernel) (sym is) (contains_at kernel k place here),
    )
    | follows gt ↦ absurd
        (past (λ n a e at. subst (λ y. Precedes y z)
        (at_once kernel place k a here (subst (λ j. slice_get kernel j ≡ Some a) (let f : n ≡ place = omega arith in f) at)) gt))
  ]
    where
      same : k ≡ m
      same = elim (compared k m) [ ahead lt ↦ absurd (not_less lt) | alike is ↦ is | follows gt ↦ absurd (not_more gt) ]

module _ (kernel items : List Item) (place : ℕ) (sorted : AreInOrder kernel) (past : length kernel ≤ place) (within : place ≤ length kernel)
    (agree : AgreeUpTo kernel items place) where
  absent : (z : Item) → IsAfter kernel place z → ¬ Contains kernel z
  absent z h there =
      let (p, at) = place_of kernel z there in
      let le = not_among kernel place p z within sorted h at in
      absurd (let lt = slice_get_within kernel p z at in omega (arith, lt, le))

  -- the kernel has no item where the other has one
  pub items_go_on : (m : Item) → IsLeastAfter kernel place items (length items) (Some m) → ComesFirst items kernel
  items_go_on m least =
      by_kind items kernel (IsAfter kernel place) (λ z. after_or_not kernel place z within) m least.0 (absent m least.1)
      (least_after kernel place items m least) (λ z h there. absurd (absent z h there)) (turned kernel items place agree)

  -- neither has a further item
  pub both_end : IsLeastAfter kernel place items (length items) None → SameItems kernel items
  both_end least z = elim (after_or_not kernel place z within) [
    | inl h ↦ (λ there. absurd (absent z h there), λ there. absurd (none_after kernel place items least z h there))
    | inr not_after ↦ agree z not_after
  ]

-- a lesser item at one place more is the least
pub least_lesser : (kernel items : List Item) (place n : ℕ) (item m : Item) → IsLeastAfter kernel place items n (Some m) →
    slice_get items n ≡ Some item → IsAfter kernel place item → Precedes item m → IsLeastAfter kernel place items (n + 1) (Some item)
least_lesser kernel items place n item m least at beyond less = (
  contains_at items item n at,
  beyond,
  λ p z lt at' h below. elim (cases_eq p n) [
    | inl same ↦ not_itself item
        (subst (λ y. Precedes y item) (at_once items n z item (subst (λ k. slice_get items k ≡ Some z) same at') at) below)
    | inr ne ↦ least.2 p z (omega arith) at' h (precedes_then z item m below less)
  ],
)
