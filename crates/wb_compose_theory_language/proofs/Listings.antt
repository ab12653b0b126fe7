-- What has a property, each once, where it is among the elements of a list.
use Rattle.std.proofs.Common.{◌≢◌, ◌⊎◌, inl, inr, List, [], ◌∷◌, refl, sym, subst, arith, Contains}
use Rattle.std.specs.Prelude.{◌↔◌}
use Rattle.std.proofs.lemmas.Bool.{cases_lt}
use Rattle.wb_base.specs.Different.{Differ}
use Rattle.wb_lemmas.proofs.Members.{contains_cases, contains_first, contains_later, nothing_in}
use Rattle.wb_lemmas.proofs.NotNot.{decide, certain, follows, bind}
use Rattle.wb_lemmas.proofs.Sublists.{Rising, nil, cons, rising_places}

-- the two aren't one
abbrev pub Unlike : {X : Type 0} → X → X → Type 0
Unlike x y = x ≢ y

pub record IsListing {X : Type 0} (P : X → Type 0) (xs ys : List X) : Type 0 where
  pub unlike : Rising Unlike ys
  pub exact : (y : X) → Contains ys y ↔ (Contains xs y × P y)

module _ {X : Type 0} (P : X → Type 0) where
  skipped : (x : X) (xs ys : List X) → (P x → Contains ys x) → IsListing P xs ys → IsListing P (x ∷ xs) ys
  skipped x xs ys again h = record {
    unlike = h.unlike;
    exact = λ y. (
      λ has. (contains_later x y xs ((h.exact y).0 has).0, ((h.exact y).0 has).1),
      λ (has, p). elim (contains_cases x y xs has) [
        | inl e ↦ subst (Contains ys) e (again (subst P (sym e) p))
        | inr later ↦ (h.exact y).1 (later, p)
      ],
    );
  }

  taken : (x : X) (xs ys : List X) → P x → ¬ Contains ys x → IsListing P xs ys → IsListing P (x ∷ xs) (x ∷ ys)
  taken x xs ys p fresh h = record {
    unlike = cons x ys (λ y has e. fresh (subst (Contains ys) (sym e) has)) h.unlike;
    exact = λ y. (
      λ has. elim (contains_cases x y ys has) [
        | inl e ↦ subst (λ z. Contains (x ∷ xs) z × P z) e (contains_first x xs, p)
        | inr later ↦ (contains_later x y xs ((h.exact y).0 later).0, ((h.exact y).0 later).1)
      ],
      λ (has, q). elim (contains_cases x y xs has) [
        | inl e ↦ subst (Contains (x ∷ ys)) e (contains_first x ys)
        | inr later ↦ contains_later x y ys ((h.exact y).1 (later, q))
      ],
    );
  }

  step : (x : X) (xs ys : List X) → IsListing P xs ys → (P x ⊎ ¬ P x) → (Contains ys x ⊎ ¬ Contains ys x) → (zs : List X) × IsListing P (x ∷ xs) zs
  step x xs ys h (inr lacks) there = (ys, skipped x xs ys (λ p. absurd (lacks p)) h)
  step x xs ys h (inl p) (inl there) = (ys, skipped x xs ys (λ q. there) h)
  step x xs ys h (inl p) (inr fresh) = (x ∷ ys, taken x xs ys p fresh h)

  pub listing : (xs : List X) → ¬ ¬ ((ys : List X) × IsListing P xs ys)
  listing [] = certain ([], record { unlike = nil; exact = λ y. (λ has. absurd (nothing_in y has), λ (has, p). has) })
  listing (x ∷ xs) = bind (listing xs) (λ (ys, h). bind (decide (P x)) (λ d. follows (decide (Contains ys x)) (λ e. step x xs ys h d e)))

pub differs : {X : Type 0} (ys : List X) → Rising Unlike ys → Differ ys
differs {X} ys r x i j at to = elim (cases_lt i j) [
  | inl less ↦ absurd (rising_places Unlike ys r i j x x less at to refl)
  | inr more ↦ elim (cases_lt j i) [
    | inl less ↦ absurd (rising_places Unlike ys r j i x x less to at refl)
    | inr other ↦ omega (arith, more, other)
  ]
]
