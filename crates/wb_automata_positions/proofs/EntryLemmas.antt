-- Entries of places that hand on to others, and how places and starts get theirs.
use Rattle.std.proofs.Common.{◌≡◌, ℕ, zero, suc, ◌+◌, ◌<◌, ◌≤◌, ◌≢◌, ◌⊎◌, List, [], ◌∷◌, ◌++◌, refl, sym, ◌∙◌, ap, subst, arith, inl}
use Rattle.std.proofs.Common.{inr, Some, length, get_or}
use Rattle.std.proofs.Common.{length-append, length-set, get_or-set_same, get_or-set_other, set, if◌then◌else◌}
use Rattle.std.specs.Prelude.{slice_get, nat_lt}
use Rattle.std.proofs.lemmas.Bool.{cases_Bool, cases_eq, cases_lt, ltb-true}
use Rattle.std.proofs.lemmas.List.{get_or_append_left, get_or_past, get_or_push}
use Rattle.std.proofs.lemmas.Option.{same_Some, slice_get-get_or, slice_get_past, slice_get_within}
use Rattle.wb_automata_positions.specs.declared.places.Place.{Place}
use Rattle.wb_automata_positions.specs.declared.places.Place.TheVariants as p
use Rattle.wb_automata_positions.specs.Places.{ArePlacesBelow, GoesOn, moves}
use Rattle.wb_automata_positions.specs.Inner.Shortcuts.{AreEntries, AreIdentity, AreMoved, AreRetargeted, HandsOn, IsPrepared, LeadsToo}
use Rattle.wb_automata_positions.specs.Inner.Shortcuts.{Waits}
use Rattle.wb_automata_positions.specs.Inner.Shortcuts.{entry_at, retargeted}

-- an element that is set
pub set_here : {X : Type 0} (xs : List X) (i : ℕ) (x : X) → i < length xs → slice_get (set xs i x) i ≡ Some x
set_here [] i x lt = absurd (omega arith)
set_here (y ∷ xs) zero x lt = refl
set_here (y ∷ xs) (suc i) x lt = set_here xs i x (omega (arith, lt))

pub set_there : {X : Type 0} (xs : List X) (i j : ℕ) (x : X) → j ≢ i → slice_get (set xs i x) j ≡ slice_get xs j
set_there [] i j x d = refl
set_there (y ∷ xs) zero zero x d = absurd (d refl)
set_there (y ∷ xs) zero (suc j) x d = refl
set_there (y ∷ xs) (suc i) zero x d = refl
set_there (y ∷ xs) (suc i) (suc j) x d = set_there xs i j x (λ e. d (ap suc e))

-- the entry of one place more
record IsEntry (places : List Place) (entry : List ℕ) (i v : ℕ) : Type 0 where
  pub below : v ≤ i
  pub is : (v ≡ i) ⊎ ((next : ℕ) × (slice_get places i ≡ Some (p.Go next)) × (next < i) × (v ≡ get_or entry next 0))
  pub leads : LeadsToo places v i

own_entry : (places : List Place) (entry : List ℕ) (i : ℕ) → IsEntry places entry i i
own_entry places entry i = record { below = omega arith; is = inl refl; leads = λ k x run. run }

entry_is : (places : List Place) (entry : List ℕ) (i : ℕ) (place : Place) → slice_get places i ≡ Some place → AreEntries places entry i
    → IsEntry places entry i (entry_at entry i place)
entry_is places entry i (p.Read words next) at h = own_entry places entry i
entry_is places entry i (p.Go next) at h = elim (cases_Bool (nat_lt next i)) [
  | inl on ↦
      let lt : next < i = ltb-true next i on in
      subst (IsEntry places entry i) (sym (ap (λ b. if b then get_or entry next 0 else i) on)) (record {
        below = let le = h.below next lt in omega arith;
        is = inr (next, at, lt, refl);
        leads = λ k x run. moves (p.Go next) next at refl (h.leads next lt k x run);
      })
  | inr off ↦ subst (IsEntry places entry i) (sym (ap (λ b. if b then get_or entry next 0 else i) off)) (own_entry places entry i)
]
entry_is places entry i (p.Fork next other) at h = own_entry places entry i
entry_is places entry i (p.End number) at h = own_entry places entry i

pub entries_none : (places : List Place) (entry : List ℕ) → entry ≡ [] → AreEntries places entry 0
entries_none places entry e = record {
  len = ap length e;
  below = λ j lt. absurd (omega arith);
  each = λ j lt. absurd (omega arith);
  leads = λ j lt. absurd (omega arith);
}

pub entries_more : (places : List Place) (entry : List ℕ) (i : ℕ) (place : Place) → slice_get places i ≡ Some place
    → AreEntries places entry i → AreEntries places (entry ++ entry_at entry i place ∷ []) (i + 1)
entries_more places entry i place at h = record {
  len = omega (arith, h.len, length-append entry (v ∷ []));
  below = λ j lt. elim (cases_lt j i) [
    | inl early ↦ omega (arith, before j early, h.below j early)
    | inr past ↦ omega (arith, last j lt past, f.below)
  ];
  each = λ j lt. elim (cases_lt j i) [
    | inl early ↦ elim (h.each j early) [
      | inl own ↦ inl (before j early ∙ own)
      | inr on ↦ inr (record {
        next = on.next;
        at = on.at;
        earlier = on.earlier;
        same = before j early ∙ on.same ∙ sym (before on.next (let less = on.earlier in omega arith));
      })
    ]
    | inr past ↦
        let same : i ≡ j = omega arith in
        subst (λ z. (get_or (entry ++ v ∷ []) z 0 ≡ z) ⊎ HandsOn places (entry ++ v ∷ []) z) same (elim f.is [
          | inl own ↦ inl (last i (omega arith) (omega arith) ∙ own)
          | inr (next, here, less, is) ↦ inr (record {
            next = next;
            at = here;
            earlier = less;
            same = last i (omega arith) (omega arith) ∙ is ∙ sym (before next less);
          })
        ])
  ];
  leads = λ j lt. elim (cases_lt j i) [
    | inl early ↦ subst (λ z. LeadsToo places z j) (sym (before j early)) (h.leads j early)
    | inr past ↦
        let same : i ≡ j = omega arith in
        subst (λ z. LeadsToo places z j) (sym (last j lt past)) (subst (LeadsToo places v) same f.leads)
  ];
}
  where
    v : ℕ
    v = entry_at entry i place

    f : IsEntry places entry i (entry_at entry i place)
    f = entry_is places entry i place at h

    before : (j : ℕ) → j < i → get_or (entry ++ entry_at entry i place ∷ []) j 0 ≡ get_or entry j 0
    before j less = get_or_append_left entry (entry_at entry i place ∷ []) 0 j (omega (arith, h.len))

    last : (j : ℕ) → j < i + 1 → i ≤ j → get_or (entry ++ entry_at entry i place ∷ []) j 0 ≡ entry_at entry i place
    last j lt past = let e : i ≡ j = omega arith in
        subst (λ z. get_or (entry ++ entry_at entry i place ∷ []) z 0 ≡ entry_at entry i place) e
        (get_or_push entry (entry_at entry i place) 0 i h.len)

-- the same as an entry is pushed
pub entries_push : (places : List Place) (entry entry' slice : List ℕ) (i at : ℕ) (d : Place) → i < length places
    → entry' ≡ entry ++ at ∷ []
    → at ≡ entry_at slice i (get_or places i d) → slice ≡ entry → AreEntries places entry i → AreEntries places entry' (i + 1)
entries_push places entry entry' slice i at d lt e f g h = subst (λ z. AreEntries places z (i + 1))
    (sym (e ∙ ap (λ z. entry ++ z ∷ []) (f ∙ ap (λ z. entry_at z i (get_or places i d)) g)))
    (entries_more places entry i (get_or places i d) (slice_get-get_or places i d lt) h)

no_wait : (place : Place) (next : ℕ) → place ≡ p.Go next → Waits place → ⊥
no_wait place next e w = subst Waits e w

-- places that hand on are passed over
pub handing_prepared : (places : List Place) (entry : List ℕ) → ArePlacesBelow places → AreEntries places entry (length places)
    → IsPrepared places places entry
handing_prepared places entry below h = record {
  len = refl;
  entry_len = h.len;
  entry_below = λ i lt. (let le = h.below i lt in omega arith);
  same = λ i lt. h.leads i lt;
  below = below;
  moves = λ i q m k x run. moves m.place q m.at m.goes run;
  waits = λ i place at w. at;
  kept = λ i place at w. elim (h.each i (slice_get_within places i place at)) [
    | inl own ↦ (own, at)
    | inr on ↦ absurd (no_wait place on.next (same_Some place (p.Go on.next) (sym at ∙ on.at)) w)
  ];
  steps = λ i q m. elim (h.each i (slice_get_within places i m.place m.at)) [
    | inl own ↦ inr (record { place = m.place; at = ap (slice_get places) own ∙ m.at; goes = m.goes })
    | inr on ↦
        let next : q ≡ on.next = subst (λ z. GoesOn z q) (same_Some m.place (p.Go on.next) (sym m.at ∙ on.at)) m.goes in
        inl (ap (λ z. get_or entry z 0) next ∙ sym on.same)
  ];
}

pub retarget_begin : (old : List Place) (entry : List ℕ) → AreRetargeted old entry old 0
retarget_begin old entry = record { len = refl; done = λ j place lt. absurd (omega arith); rest = λ j le. refl }

-- one place more
pub retarget_more : (old : List Place) (entry : List ℕ) (new : List Place) (i : ℕ) (place : Place) → i < length new
    → slice_get new i ≡ Some place → AreRetargeted old entry new i → AreRetargeted old entry (set new i (retargeted entry place)) (i + 1)
retarget_more old entry new i place within at h = record {
  len = length-set new i (retargeted entry place) ∙ h.len;
  done = λ j other lt was. elim (cases_eq j i) [
    | inl e ↦
        let same : place ≡ other = same_Some place other (sym at ∙ h.rest i (omega arith) ∙ ap (slice_get old) (sym e) ∙ was) in
        ap (slice_get (set new i (retargeted entry place))) e ∙ set_here new i (retargeted entry place) within
        ∙ ap (λ z. Some (retargeted entry z)) same
    | inr ne ↦ set_there new i j (retargeted entry place) ne ∙ h.done j other (omega arith) was
  ];
  rest = λ j le. set_there new i j (retargeted entry place) (λ e. absurd (omega arith)) ∙ h.rest j (omega arith);
}

pub retarget_end : (old : List Place) (entry : List ℕ) (new : List Place) (i : ℕ) → length old ≤ i → AreRetargeted old entry new i
    → AreRetargeted old entry new (length old)
retarget_end old entry new i le h = record {
  len = h.len;
  done = λ j place lt at. h.done j place (omega arith) at;
  rest = λ j past. nothing j past;
}
  where
    nothing : (j : ℕ) → length old ≤ j → slice_get new j ≡ slice_get old j
    nothing j past = elim (cases_lt j i) [
      | inl early ↦ slice_get_past new j (omega (arith, h.len)) ∙ sym (slice_get_past old j past)
      | inr late ↦ h.rest j late
    ]

pub moved_begin : (old entry : List ℕ) → AreMoved old entry old 0
moved_begin old entry = record { len = refl; done = λ j lt. absurd (omega arith); rest = λ j le. refl }

-- one start more
pub moved_more : (old entry new : List ℕ) (i : ℕ) → i < length new → AreMoved old entry new i
    → AreMoved old entry (set new i (get_or entry (get_or new i 0) 0)) (i + 1)
moved_more old entry new i within h = record {
  len = length-set new i (get_or entry (get_or new i 0) 0) ∙ h.len;
  done = λ j lt. elim (cases_eq j i) [
    | inl e ↦ ap (λ z. get_or (set new i (get_or entry (get_or new i 0) 0)) z 0) e
        ∙ get_or-set_same new i (get_or entry (get_or new i 0) 0) 0 within
        ∙ ap (λ z. get_or entry z 0) (h.rest i (omega arith) ∙ ap (λ z. get_or old z 0) (sym e))
    | inr ne ↦ get_or-set_other new i j (get_or entry (get_or new i 0) 0) 0 ne ∙ h.done j (omega arith)
  ];
  rest = λ j le. get_or-set_other new i j (get_or entry (get_or new i 0) 0) 0 (λ e. absurd (omega arith)) ∙ h.rest j (omega arith);
}

pub moved_end : (old entry new : List ℕ) (i : ℕ) → length old ≤ i → AreMoved old entry new i → AreMoved old entry new (length old)
moved_end old entry new i le h = record {
  len = h.len;
  done = λ j lt. h.done j (omega arith);
  rest = λ j past. elim (cases_lt j i) [
    | inl early ↦ get_or_past new j 0 (omega (arith, h.len)) ∙ sym (get_or_past old j 0 past)
    | inr late ↦ h.rest j late
  ];
}

pub identity_more : (entry : List ℕ) (i : ℕ) → AreIdentity entry i → AreIdentity (entry ++ i ∷ []) (i + 1)
identity_more entry i h = record {
  len = omega (arith, h.len, length-append entry (i ∷ []));
  each = λ j lt. elim (cases_lt j i) [
    | inl early ↦ get_or_append_left entry (i ∷ []) 0 j (omega (arith, h.len)) ∙ h.each j early
    | inr past ↦ (let e : i ≡ j = omega arith in subst (λ z. get_or (entry ++ i ∷ []) z 0 ≡ z) e (get_or_push entry i 0 i h.len))
  ];
}
