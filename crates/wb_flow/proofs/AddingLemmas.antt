-- Lists to which values are added: one, several after each other, and by a loop.
use Rattle.std.proofs.Common.{◌≡◌, ◌<◌, ◌≤◌, ◌+◌, ◌∷◌, ◌++◌, [], ◌⊎◌, inl, inr, ℕ, List, Some, length, slice_get, Contains, sym, ap, subst}
use Rattle.std.proofs.Common.{◌∙◌, get_or}
use Rattle.std.proofs.Common.{arith}
use Rattle.std.specs.Prelude.{◌↔◌}
use Rattle.std.proofs.lemmas.Bool.{cases_lt}
use Rattle.std.proofs.lemmas.Option.{slice_get_within, slice_get-get_or}
use Rattle.wb_lemmas.proofs.Members.{contains_at, place_of, nothing_in, contains_push, push_contains, push_contains_last}
use Rattle.wb_lemmas.proofs.Places.{at_once}
use Rattle.wb_flow.specs.Inner.Adding.{SomeBefore, SomeOf, SomeBelow}
use Rattle.wb_flow.specs.Adding.{Adds}

-- one of the numbers up to this one is below it, or it
pub below_or : (k i : ℕ) → k < i + 1 → (k < i) ⊎ (k ≡ i)
below_or k i lt = elim (cases_lt k i) [ inl low ↦ inl low | inr high ↦ inr (omega arith) ]

-- what a loop reads from a list is there
pub read_item : {X : Type 0} (xs : List X) (i : ℕ) (x : X) → i < length xs → x ≡ get_or xs i x → slice_get xs i ≡ Some x
read_item xs i x within is = slice_get-get_or xs i x within ∙ ap Some (sym is)

module _ {X : Type 0} where
  -- nothing is added
  pub adds_none : (xs : List X) (P : X → Type 0) → ((x : X) → ¬ P x) → Adds xs xs P
  adds_none xs P never x = ((λ has. inl has), (λ either. elim either [ inl has ↦ has | inr holds ↦ absurd (never x holds) ]))

  -- the same, where the list is the old one
  pub adds_none_to : (xs ys : List X) (P : X → Type 0) → ys ≡ xs → ((x : X) → ¬ P x) → Adds xs ys P
  adds_none_to xs ys P same never = subst (λ zs. Adds xs zs P) (sym same) (adds_none xs P never)

  -- one value is added
  pub adds_one : (xs ys : List X) (y : X) → ys ≡ xs ++ y ∷ [] → Adds xs ys (λ x. x ≡ y)
  adds_one xs ys y is = subst (λ zs. Adds xs zs (λ x. x ≡ y)) (sym is) (λ x. (
    (λ has. elim (contains_push xs y x has) [ inl old ↦ inl old | inr last ↦ inr (sym last) ]),
    (λ either. elim either [
      | inl old ↦ push_contains xs y x old
      | inr last ↦ subst (Contains (xs ++ y ∷ [])) (sym last) (push_contains_last xs y)
    ]),
  ))

  -- the same is meant in other words
  pub adds_as : (xs ys : List X) (P Q : X → Type 0) → ((x : X) → P x ↔ Q x) → Adds xs ys P → Adds xs ys Q
  adds_as xs ys P Q same adds x = (
    (λ has. elim ((adds x).0 has) [ inl old ↦ inl old | inr holds ↦ inr ((same x).0 holds) ]),
    (λ either. (adds x).1 (elim either [ inl old ↦ inl old | inr holds ↦ inr ((same x).1 holds) ])),
  )

  -- one after the other
  pub adds_both : (xs ys zs : List X) (P Q : X → Type 0) → Adds xs ys P → Adds ys zs Q → Adds xs zs (λ x. P x ⊎ Q x)
  adds_both xs ys zs P Q first second x = (
    (λ has. elim ((second x).0 has) [
      | inl old ↦ elim ((first x).0 old) [ inl older ↦ inl older | inr holds ↦ inr (inl holds) ]
      | inr holds ↦ inr (inr holds)
    ]),
    (λ either. elim either [
      | inl old ↦ (second x).1 (inl ((first x).1 (inl old)))
      | inr (inl holds) ↦ (second x).1 (inl ((first x).1 (inr holds)))
      | inr (inr holds) ↦ (second x).1 (inr holds)
    ]),
  )

  -- what is added to nothing is all that there is
  pub adds_to_nothing : (ys : List X) (P : X → Type 0) → Adds [] ys P → (x : X) → Contains ys x ↔ P x
  adds_to_nothing ys P adds x = (
    (λ has. elim ((adds x).0 has) [ inl old ↦ absurd (nothing_in x old) | inr holds ↦ holds ]),
    (λ holds. (adds x).1 (inr holds)),
  )

  -- a loop over a list
  pub adds_start : {A : Type 0} (xs : List X) (bs : List A) (P : A → X → Type 0) → Adds xs xs (SomeBefore bs 0 P)
  adds_start xs bs P = adds_none xs (SomeBefore bs 0 P) (λ x (k, a, lt, at, holds). omega (arith, lt))

  pub adds_more : {A : Type 0} (xs ys zs : List X) (bs : List A) (P : A → X → Type 0) (i : ℕ) (a : A) → slice_get bs i ≡ Some a
      → Adds xs ys (SomeBefore bs i P) → Adds ys zs (P a) → Adds xs zs (SomeBefore bs (i + 1) P)
  adds_more {A} xs ys zs bs P i a there before next = adds_as xs zs (λ x. SomeBefore bs i P x ⊎ P a x) (SomeBefore bs (i + 1) P)
      (λ x. ((λ either. to x either), from x)) (adds_both xs ys zs (SomeBefore bs i P) (P a) before next) where
        to : (x : X) → SomeBefore bs i P x ⊎ P a x → SomeBefore bs (i + 1) P x
        to x (inl (k, b, lt, at, holds)) = (k, b, (omega (arith, lt)), at, holds)
        to x (inr holds) = (i, a, (omega arith), there, holds)

        from : (x : X) → SomeBefore bs (i + 1) P x → SomeBefore bs i P x ⊎ P a x
        from x (k, b, lt, at, holds) = elim (below_or k i lt) [
          | inl low ↦ inl (k, b, low, at, holds)
          | inr last ↦ (let same : b ≡ a = at_once bs i b a (subst (λ z. slice_get bs z ≡ Some b) last at) there in
              inr (subst (λ z. P z x) same holds))
        ]

  pub adds_all : {A : Type 0} (xs ys : List X) (bs : List A) (P : A → X → Type 0) (i : ℕ) → length bs ≤ i → Adds xs ys (SomeBefore bs i P)
      → Adds xs ys (SomeOf bs P)
  adds_all xs ys bs P i ended = adds_as xs ys (SomeBefore bs i P) (SomeOf bs P) (λ x. (
    (λ (k, a, lt, at, holds). (a, contains_at bs a k at, holds)),
    (λ (a, has, holds). let (k, at) = place_of bs a has in
        let lt = slice_get_within bs k a at in
        (k, a, (omega (arith, lt, ended)), at, holds)),
  ))

  -- a loop over numbers
  pub adds_start_below : (xs : List X) (P : ℕ → X → Type 0) → Adds xs xs (SomeBelow 0 P)
  adds_start_below xs P = adds_none xs (SomeBelow 0 P) (λ x (k, lt, holds). omega (arith, lt))

  pub adds_more_below : (xs ys zs : List X) (P : ℕ → X → Type 0) (i : ℕ) → Adds xs ys (SomeBelow i P) → Adds ys zs (P i)
      → Adds xs zs (SomeBelow (i + 1) P)
  adds_more_below xs ys zs P i before next = adds_as xs zs (λ x. SomeBelow i P x ⊎ P i x) (SomeBelow (i + 1) P)
      (λ x. ((λ either. to x either), from x)) (adds_both xs ys zs (SomeBelow i P) (P i) before next) where
        to : (x : X) → SomeBelow i P x ⊎ P i x → SomeBelow (i + 1) P x
        to x (inl (k, lt, holds)) = (k, (omega (arith, lt)), holds)
        to x (inr holds) = (i, (omega arith), holds)

        from : (x : X) → SomeBelow (i + 1) P x → SomeBelow i P x ⊎ P i x
        from x (k, lt, holds) = elim (below_or k i lt) [
          | inl low ↦ inl (k, low, holds)
          | inr last ↦ inr (subst (λ z. P z x) last holds)
        ]
