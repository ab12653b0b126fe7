-- The lists of starts of the sets.
use Rattle.std.proofs.Common.{◌≡◌, ℕ, ◌+◌, ◌≤◌, ◌<◌, Bool, List, [], ◌∷◌, ◌++◌, refl, sym, ◌∙◌, ap, subst, arith, inl, inr, Some, length, get_or}
use Rattle.std.proofs.Common.{length-append}
use Rattle.std.specs.Prelude.{slice_get, Contains, ◌↔◌}
use Rattle.std.proofs.lemmas.Bool.{cases_lt, cases_eq}
use Rattle.std.proofs.lemmas.List.{get_or_append_left, get_or_push, get_or_past, get_or_default}
use Rattle.std.proofs.lemmas.List.Elements.{Contains-append_left, Contains-push, Contains-push_cases}
use Rattle.std.proofs.lemmas.Option.{same_Some}
use Rattle.wb_termset.specs.Sets.{IsMember}
use Rattle.wb_automata_positions.specs.Rows.{row}
use Rattle.wb_automata_positions.specs.Rising.{AreRising}
use Rattle.wb_automata_positions.specs.Transitions.{IsPlaceList}
use Rattle.wb_automata_positions.specs.Tables.{IsStartOf, IsStartsOf}
use Rattle.wb_automata_positions.specs.Inner.Starts.{AreStarts}
use Rattle.wb_lemmas.proofs.Elements.{all_from_contained}

pub rising_none : AreRising []
rising_none i j lt below = absurd (omega arith)

pub places_none : (m : ℕ) → IsPlaceList m []
places_none m = record { below = λ k d lt. absurd (omega arith); rising = rising_none }

-- a list that rises goes on with a greater number
pub rising_push : (xs : List ℕ) (x : ℕ) → AreRising xs → ((y : ℕ) → Contains xs y → y < x) → AreRising (xs ++ x ∷ [])
rising_push xs x rise below i j lt within = elim (cases_lt j (length xs)) [
  | inl less ↦ rw (get_or_append_left xs (x ∷ []) 0 i (omega arith), get_or_append_left xs (x ∷ []) 0 j less) (rise i j lt less)
  | inr past ↦
      let e : j ≡ length xs = omega (arith, length-append xs (x ∷ [])) in
      subst (λ z. get_or (xs ++ x ∷ []) i 0 < get_or (xs ++ x ∷ []) z 0) (sym e)
      (rw (get_or_append_left xs (x ∷ []) 0 i (omega arith), get_or_push xs x 0 (length xs) refl)
      (below (get_or xs i 0) (i, omega arith, sym (get_or_default xs i 0 (get_or xs i 0) (omega arith)))))
]

-- the starts of those of the first k roots that are in the set
pub record StartPass (n : ℕ) (flags : List Bool) (places : List ℕ) (k : ℕ) : Type 0 where
  pub exact : (p : ℕ) → Contains places p ↔ IsStartOf n k (IsMember flags) p
  pub rising : AreRising places

pub start_more : (n : ℕ) (flags : List Bool) (places : List ℕ) (k : ℕ) → IsMember flags k → StartPass n flags places k → StartPass n flags
    (places ++ (n + k) ∷ []) (k + 1)
start_more n flags places k has h = record {
  exact = λ p. (
    λ is. elim (Contains-push_cases places (n + k) p is) [
      | inl a ↦
          (let s = (h.exact p).0 a in let lt = s.below in record { number = s.number; below = omega arith; is = s.is; place = s.place })
      | inr e ↦ record { number = k; below = omega arith; is = has; place = sym e }
    ],
    λ s. elim (cases_lt s.number k) [
      | inl less ↦ Contains-append_left places ((n + k) ∷ []) p
          ((h.exact p).1 (record { number = s.number; below = less; is = s.is; place = s.place }))
      | inr past ↦ (let lt = s.below in let place = s.place in let e : n + k ≡ p = omega arith in subst
          (Contains (places ++ (n + k) ∷ [])) e (Contains-push places (n + k)))
    ],
  );
  rising = rising_push places (n + k) h.rising (λ y is. let s = (h.exact y).0 is in let lt = s.below in let place = s.place in omega arith);
}

-- none of the numbers from one to another is in the set
pub start_skip : (n : ℕ) (flags : List Bool) (places : List ℕ) (k l : ℕ) → k ≤ l → ((m : ℕ) → k ≤ m → m < l → ¬ IsMember flags m)
    → StartPass n flags places k → StartPass n flags places l
start_skip n flags places k l le none h = record {
  exact = λ p. (
    λ is. let s = (h.exact p).0 is in let lt = s.below in record { number = s.number; below = omega arith; is = s.is; place = s.place },
    λ s. elim (cases_lt s.number k) [
      | inl less ↦ (h.exact p).1 (record { number = s.number; below = less; is = s.is; place = s.place })
      | inr past ↦ absurd (none s.number past s.below s.is)
    ],
  );
  rising = h.rising;
}

-- no number is gone through yet
pub start_none : (n : ℕ) (flags : List Bool) → StartPass n flags [] 0
start_none n flags = record {
  exact = λ p. (λ (k, lt, at). absurd (omega arith), λ s. let lt = s.below in absurd (omega arith));
  rising = rising_none;
}

pub start_places : (n : ℕ) (flags : List Bool) (places : List ℕ) (k : ℕ) → StartPass n flags places k → IsPlaceList (n + k) places
start_places n flags places k h = record {
  below = all_from_contained (λ p. p < n + k) places
      (λ p is. let s = (h.exact p).0 is in let lt = s.below in let place = s.place in omega arith);
  rising = h.rising;
}

pub starts_none : (n count : ℕ) (sets : List (List Bool)) → AreStarts n count sets [] 0
starts_none n count sets = record { len = refl; each = λ s flags lt. absurd (omega arith); places = λ s. places_none (n + count) }

pub starts_more : (n count : ℕ) (sets : List (List Bool)) (starts : List (List ℕ)) (flags : List Bool) (places : List ℕ) (i : ℕ)
    → slice_get sets i ≡ Some flags → IsStartsOf n count flags places → IsPlaceList (n + count) places → AreStarts n count sets starts i
    → AreStarts n count sets (starts ++ places ∷ []) (i + 1)
starts_more n count sets starts flags places i at exact list h = record {
  len = omega (arith, h.len, length-append starts (places ∷ []));
  each = λ s own lt here. elim (cases_lt s i) [
    | inl early ↦ rw (get_or_append_left starts (places ∷ []) [] s (omega (arith, h.len))) (h.each s own early here)
    | inr past ↦
        let same : s ≡ i = omega arith in
        let is : flags ≡ own = same_Some flags own (sym at ∙ ap (slice_get sets) (sym same) ∙ here) in
        subst (λ z. IsStartsOf n count own (row (starts ++ places ∷ []) z)) (sym same)
        (rw (get_or_push starts places [] i h.len) (subst (λ z. IsStartsOf n count z places) is exact))
  ];
  places = λ s. elim (cases_lt s (length starts)) [
    | inl less ↦ rw (get_or_append_left starts (places ∷ []) [] s less) (h.places s)
    | inr past ↦ elim (cases_eq s (length starts)) [
      | inl e ↦ subst (λ z. IsPlaceList (n + count) (row (starts ++ places ∷ []) z)) (sym e)
          (rw (get_or_push starts places [] (length starts) refl) list)
      | inr ne ↦ rw (get_or_past (starts ++ places ∷ []) s [] (omega (arith, length-append starts (places ∷ [])))) (places_none (n + count))
    ]
  ];
}
