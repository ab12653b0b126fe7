-- How many states there are at most: there are 2 to the power of m rising lists of numbers below m.
use Rattle.std.proofs.Common.{◌≡◌, ℕ, zero, suc, ◌+◌, ◌^◌, ◌≤◌, ◌<◌, ◌⊎◌, Bool, true, List, [], ◌∷◌, ◌++◌, refl, sym, ◌∙◌, ap, subst, arith}
use Rattle.std.proofs.Common.{inl, inr, Some, length, get_or, map, length-append}
use Rattle.std.specs.Prelude.{slice_get, Contains, All, nat_eq}
use Rattle.std.specs.List.{IsDistinct}
use Rattle.std.specs.Cmp.Lexicographic.{pointwise}
use Rattle.std.proofs.lemmas.Bool.{cases_lt, cases_Bool}
use Rattle.std.proofs.lemmas.Bool.Decides.{Decides-eqb}
use Rattle.std.proofs.lemmas.Cmp.{nat_list_eq_equiv}
use Rattle.std.proofs.lemmas.List.{length-map, get_or_append_left, get_or_push, get_or_default, get_or-map}
use Rattle.std.proofs.lemmas.List.Elements.{Contains-append_left, Contains-append_right}
use Rattle.std.proofs.lemmas.Map.Keys.{IsDistinct-from_apart}
use Rattle.std.proofs.lemmas.Map.Made.{length-le_from_is_member}
use Rattle.std.proofs.lemmas.Map.Views.{list_any-from_Contains, Contains-from_any}
use Rattle.std.proofs.lemmas.Option.{slice_get-get_or}
use Rattle.std.proofs.lemmas.Slice.Eq.{slice_eq-Decides}
use Rattle.wb_base.specs.Different.{Differ}
use Rattle.wb_automata_positions.specs.declared.tables.Tables.{Tables}
use Rattle.wb_automata_positions.specs.Rising.{AreRising}
use Rattle.wb_automata_positions.specs.Transitions.{IsPlaceList, count_of}
use Rattle.wb_automata.specs.Inner.Found.{Found, AreFound}

-- all rising lists of numbers below m
abbrev lists_below : ℕ → List (List ℕ)
lists_below zero = [] ∷ []
lists_below (suc m) = lists_below m ++ map (λ xs. xs ++ m ∷ []) (lists_below m)

length-lists_below : (m : ℕ) → length (lists_below m) ≡ 2 ^ m
length-lists_below zero = refl
length-lists_below (suc m) =
    let e = length-append (lists_below m) (map (λ xs. xs ++ m ∷ []) (lists_below m)) in
    let f = length-map (lists_below m) (λ (xs : List ℕ). xs ++ m ∷ []) in
    let g = length-lists_below m in
    let h : 2 ^ suc m ≡ 2 ^ m + 2 ^ m = double m in
    omega arith
  where
    double : (m : ℕ) → 2 ^ suc m ≡ 2 ^ m + 2 ^ m
    double m = omega arith

contains-map : {X Y : Type 0} (f : X → Y) (xs : List X) (x : X) → Contains xs x → Contains (map f xs) (f x)
contains-map f xs x (i, lt, is) = (i, omega (arith, length-map xs f), get_or-map f xs i x (f x) lt ∙ ap f is)

-- a list is empty or ends with an element
record IsEnded (xs : List ℕ) : Type 0 where
  pub init : List ℕ
  pub last : ℕ
  pub joins : xs ≡ init ++ last ∷ []

ended : (xs : List ℕ) → (xs ≡ []) ⊎ IsEnded xs
ended [] = inl refl
ended (x ∷ xs) = elim (ended xs) [
  | inl e ↦ inr (record { init = []; last = x; joins = ap (λ z. x ∷ z) e })
  | inr e ↦ inr (record { init = x ∷ e.init; last = e.last; joins = ap (λ z. x ∷ z) e.joins })
]

-- the numbers before the last are less than it
before_last : (xs : List ℕ) (x i d : ℕ) → AreRising (xs ++ x ∷ []) → i < length xs → get_or xs i d < x
before_last xs x i d rise lt =
    let h : get_or (xs ++ x ∷ []) i 0 < get_or (xs ++ x ∷ []) (length xs) 0 = rise i (length xs) lt
    (omega (arith, length-append xs (x ∷ []))) in
    let e : get_or (xs ++ x ∷ []) i 0 ≡ get_or xs i 0 = get_or_append_left xs (x ∷ []) 0 i lt in
    let f : get_or (xs ++ x ∷ []) (length xs) 0 ≡ x = get_or_push xs x 0 (length xs) refl in
    let g : get_or xs i d ≡ get_or xs i 0 = get_or_default xs i d 0 lt in
    omega arith

init_rises : (xs : List ℕ) (x : ℕ) → AreRising (xs ++ x ∷ []) → AreRising xs
init_rises xs x rise i j lt within =
    let h : get_or (xs ++ x ∷ []) i 0 < get_or (xs ++ x ∷ []) j 0 = rise i j lt (omega (arith, length-append xs (x ∷ []))) in
    let e : get_or (xs ++ x ∷ []) i 0 ≡ get_or xs i 0 = get_or_append_left xs (x ∷ []) 0 i (omega arith) in
    let f : get_or (xs ++ x ∷ []) j 0 ≡ get_or xs j 0 = get_or_append_left xs (x ∷ []) 0 j within in
    omega arith

last_below : (m : ℕ) (xs : List ℕ) (x : ℕ) → All (λ p. p < m) (xs ++ x ∷ []) → x < m
last_below m xs x below =
    subst (λ z. z < m) (get_or_push xs x 0 (length xs) refl) (below (length xs) 0 (omega (arith, length-append xs (x ∷ []))))

-- a rising list of numbers below m is one of them
listed : (m : ℕ) (xs : List ℕ) → IsPlaceList m xs → Contains (lists_below m) xs
listed zero xs h = elim (ended xs) [
  | inl e ↦ (0, omega arith, sym e)
  | inr e ↦ (let lt = last_below 0 e.init e.last (subst (All (λ p. p < 0)) e.joins h.below) in absurd (omega arith))
]
listed (suc m) xs h = elim (ended xs) [
  | inl e ↦ Contains-append_left (lists_below m) (map (λ xs. xs ++ m ∷ []) (lists_below m)) xs
      (listed m xs (subst (IsPlaceList m) (sym e) (record {
        below = λ k d lt. absurd (omega arith);
        rising = λ i j lt within. absurd
            (omega arith);
      })))
  | inr e ↦
      let below : All (λ p. p < suc m) (e.init ++ e.last ∷ []) = subst (All (λ p. p < suc m)) e.joins h.below in
      let rise : AreRising (e.init ++ e.last ∷ []) = subst AreRising e.joins h.rising in
      let last : e.last < suc m = last_below (suc m) e.init e.last below in
      elim (cases_lt e.last m) [
        | inl less ↦ Contains-append_left (lists_below m) (map (λ xs. xs ++ m ∷ []) (lists_below m)) xs
            (listed m xs (subst (IsPlaceList m) (sym e.joins) (record { below = all_less e.init e.last m less rise; rising = rise })))
        | inr past ↦
            let same : e.last ≡ m = omega arith in
            Contains-append_right (lists_below m) (map (λ xs. xs ++ m ∷ []) (lists_below m)) xs
            (subst (Contains (map (λ xs. xs ++ m ∷ []) (lists_below m))) (ap (λ z. e.init ++ z ∷ []) (sym same) ∙ sym e.joins)
            (contains-map (λ (xs : List ℕ). xs ++ m ∷ []) (lists_below m) e.init
            (listed m e.init
            (record {
              below = λ k d lt.
                  (let b = before_last e.init e.last k d rise lt in omega arith);
              rising = init_rises e.init e.last rise;
            }))))
      ]
]
  where
    all_less : (xs : List ℕ) (x m : ℕ) → x < m → AreRising (xs ++ x ∷ []) → All (λ p. p < m) (xs ++ x ∷ [])
    all_less xs x m less rise k d lt = elim (cases_lt k (length xs)) [
      | inl early ↦ (let b = before_last xs x k d rise early in rw (get_or_append_left xs (x ∷ []) d k early) (omega arith))
      | inr late ↦ (let e : k ≡ length xs = omega (arith, length-append xs (x ∷ [])) in subst (λ z. get_or (xs ++ x ∷ []) z d < m) (sym e)
          (rw (get_or_push xs x d (length xs) refl) less))
    ]

-- whether two lists are the same
abbrev same : List ℕ → List ℕ → Bool
same xs ys = pointwise nat_eq xs ys

same_is : (xs ys : List ℕ) → same xs ys ≡ true → xs ≡ ys
same_is xs ys e = (slice_eq-Decides Decides-eqb xs ys (same xs ys) refl).0 e

-- different lists are distinct
distinct : (sets : List (List ℕ)) → Differ sets → IsDistinct same sets
distinct sets different = IsDistinct-from_apart same sets (λ i j d less lt. elim (cases_Bool (same (get_or sets i d) (get_or sets j d))) [
  | inl equal ↦
      let e : get_or sets i d ≡ get_or sets j d = same_is (get_or sets i d) (get_or sets j d) equal in
      let f : i ≡ j = different (get_or sets j d) i j (slice_get-get_or sets i d (omega arith) ∙ ap Some e)
      (slice_get-get_or sets j d lt) in
      absurd (omega arith)
  | inr other ↦ other
])

-- so there are at most as many of them
few : (m : ℕ) (sets : List (List ℕ)) → Differ sets → ((j : ℕ) (set : List ℕ) → slice_get sets j ≡ Some set → IsPlaceList m set)
    → length sets ≤ 2 ^ m
few m sets different places =
    subst (λ z. length sets ≤ z) (length-lists_below m)
    (length-le_from_is_member nat_list_eq_equiv sets (lists_below m) (distinct sets different) (λ q has.
    let (i, lt, is) = Contains-from_any same_is q sets has in
    let at : slice_get sets i ≡ Some q = slice_get-get_or sets i q lt ∙ ap Some is in
    list_any-from_Contains nat_list_eq_equiv q (lists_below m) (listed m q (places i q at))))

pub few_found : (t : Tables) (found : Found) → AreFound t found → Differ found.sets → length found.sets ≤ 2 ^ count_of t
few_found t found h different = few (count_of t) found.sets different h.places
