-- Finitely many properties part whatever has them into finitely many classes.
use Rattle.std.proofs.Common.{◌≡◌, ◌+◌, ◌⊎◌, ◌++◌, inl, inr, ℕ, List, [], ◌∷◌, length, refl, sym, ◌∙◌, subst, ap, Contains}
use Rattle.std.proofs.Common.{slice_get, Some}
use Rattle.std.specs.Prelude.{◌↔◌}
use Rattle.wb_lemmas.proofs.Members.{contains_cases, contains_first, contains_later, nothing_in}
use Rattle.wb_lemmas.proofs.Places.{nothing_at, at_one, at_append, append_keeps, append_after}
use Rattle.wb_lemmas.proofs.NotNot.{decide, certain, follows, bind}

-- both have the same of these properties
abbrev pub Same : {X I : Type 0} (P : X → I → Type 0) → List I → X → X → Type 0
Same {X} {I} P list x y = (k : I) → Contains list k → P x k ↔ P y k

-- one of each class, no two of one class
pub record AreClasses {X I : Type 0} (P : X → I → Type 0) (list : List I) (D : X → Type 0) (ones : List X) : Type 0 where
  pub inside : (i : ℕ) (x : X) → slice_get ones i ≡ Some x → D x
  pub once : (i j : ℕ) (x y : X) → slice_get ones i ≡ Some x → slice_get ones j ≡ Some y → Same P list x y → i ≡ j
  pub all : (x : X) → D x → ¬ ¬ ((i : ℕ) × (y : X) × (slice_get ones i ≡ Some y) × Same P list x y)

module _ {X I : Type 0} (P : X → I → Type 0) where
  abbrev HasClasses : List I → (X → Type 0) → Type 0
  HasClasses list D = (ones : List X) × AreClasses P list D ones

  -- by no property
  none_of : (D : X → Type 0) → (((x : X) × D x) ⊎ ¬ ((x : X) × D x)) → HasClasses [] D
  none_of D (inl some) = (
    some.0 ∷ [],
    record {
      inside = λ i x at. subst D (at_one some.0 x i at).1 some.1;
      once = λ i j x y at to same. let p = (at_one some.0 x i at).0 in let q = (at_one some.0 y j to).0 in p ∙ sym q;
      all = λ x d. certain (0, some.0, refl, λ k has. absurd (nothing_in k has));
    },
  )
  none_of D (inr out) = (
    [],
    record {
      inside = λ i x at. absurd (nothing_at x i at);
      once = λ i j x y at to same. absurd (nothing_at x i at);
      all = λ x d. absurd (out (x, d));
    },
  )

  -- by one property more
  module _ (k : I) (list : List I) (D : X → Type 0) where
    abbrev Has : X → Type 0
    Has x = D x × P x k

    abbrev Lacks : X → Type 0
    Lacks x = D x × ¬ P x k

    fewer : {x y : X} → Same P (k ∷ list) x y → Same P list x y
    fewer same z has = same z (contains_later k z list has)

    more_both : {x y : X} → P x k → P y k → Same P list x y → Same P (k ∷ list) x y
    more_both {x} {y} p q same z has = elim (contains_cases k z list has) [
      | inl e ↦ subst (λ w. P x w ↔ P y w) e (λ h. q, λ h. p)
      | inr later ↦ same z later
    ]

    more_none : {x y : X} → ¬ P x k → ¬ P y k → Same P list x y → Same P (k ∷ list) x y
    more_none {x} {y} p q same z has = elim (contains_cases k z list has) [
      | inl e ↦ subst (λ w. P x w ↔ P y w) e (λ h. absurd (p h), λ h. absurd (q h))
      | inr later ↦ same z later
    ]

    module _ (a b : List X) (first : AreClasses P list Has a) (second : AreClasses P list Lacks b) where
      abbrev Place : ℕ → X → Type 0
      Place i x = (slice_get a i ≡ Some x) ⊎ ((j : ℕ) × (i ≡ length a + j) × (slice_get b j ≡ Some x))

      inside_by : (i : ℕ) (x : X) → Place i x → D x
      inside_by i x (inl at) = (first.inside i x at).0
      inside_by i x (inr (j, is, at)) = (second.inside j x at).0

      once_by : (i j : ℕ) (x y : X) → Place i x → Place j y → Same P (k ∷ list) x y → i ≡ j
      once_by i j x y (inl at) (inl to) same = first.once i j x y at to (fewer same)
      once_by i j x y (inl at) (inr (m, is, to)) same =
          absurd ((second.inside m y to).1 ((same k (contains_first k list)).0 (first.inside i x at).1))
      once_by i j x y (inr (m, is, at)) (inl to) same =
          absurd ((second.inside m x at).1 ((same k (contains_first k list)).1 (first.inside j y to).1))
      once_by i j x y (inr (m, is, at)) (inr (n, are, to)) same = is ∙ ap (λ z. length a + z) (second.once m n x y at to (fewer same)) ∙ sym are

      all_by : (x : X) → D x → (P x k ⊎ ¬ P x k) → ¬ ¬ ((i : ℕ) × (y : X) × (slice_get (a ++ b) i ≡ Some y) × Same P (k ∷ list) x y)
      all_by x d (inl p) = follows (first.all x (d, p)) (λ (i, y, at, same).
          (i, y, append_keeps a b i y at, more_both p (first.inside i y at).1 same))
      all_by x d (inr p) = follows (second.all x (d, p)) (λ (i, y, at, same).
          (length a + i, y, append_after a b i ∙ at, more_none p (second.inside i y at).1 same))

      joined : AreClasses P (k ∷ list) D (a ++ b)
      joined = record {
        inside = λ i x at. inside_by i x (at_append a b x i at);
        once = λ i j x y at to same. once_by i j x y (at_append a b x i at) (at_append a b y j to) same;
        all = λ x d. bind (decide (P x k)) (all_by x d);
      }

  pub classes : (list : List I) (D : X → Type 0) → ¬ ¬ HasClasses list D
  classes [] D = follows (decide ((x : X) × D x)) (none_of D)
  classes (k ∷ list) D =
      bind (classes list (Has k list D)) (λ first.
      follows (classes list (Lacks k list D)) (λ second.
      (first.0 ++ second.0, joined k list D first.0 second.0 first.1 second.1)))
