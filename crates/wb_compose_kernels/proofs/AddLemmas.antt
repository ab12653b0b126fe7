-- Lists to which what has a property is added.
use Rattle.std.proofs.Common.{◌+◌, ◌<◌, ◌∷◌, ◌++◌, ◌≡◌, ◌⊎◌, List, [], arith, inl, inr, subst, sym, ℕ}
use Rattle.std.specs.Prelude.{Contains}
use Rattle.std.proofs.lemmas.Bool.{cases_lt}
use Rattle.wb_lemmas.proofs.Members.{contains_push, push_contains, push_contains_last}
use Rattle.wb_compose_kernels.specs.Inner.Moves.{Adds}

-- nothing has it
pub adds_nothing : {X : Type 0} (P : X → Type 0) (old : List X) → ((x : X) → ¬ P x) → Adds P old old
adds_nothing P old never = record { sound = λ x has. inl has; keeps = λ x has. has; complete = λ x is. absurd (never x is) }

-- one has it, which was pushed
pub adds_push : {X : Type 0} (P : X → Type 0) (old new : List X) (one : X) → new ≡ old ++ one ∷ [] → P one → ((x : X) → P x → x ≡ one) →
    Adds P old new
adds_push {X} P old new one is has only = record {
  sound = λ x c. elim (contains_push old one x (subst (λ (z : List X). Contains z x) is c)) [
    | inl before ↦ inl before
    | inr last ↦ inr (subst P last has)
  ];
  keeps = λ x c. subst (λ (z : List X). Contains z x) (sym is) (push_contains old one x c);
  complete = λ x p. subst (λ (z : List X). Contains z x) (sym is)
      (subst (Contains (old ++ one ∷ [])) (sym (only x p)) (push_contains_last old one));
}

-- the same in other words
pub adds_as : {X : Type 0} (P Q : X → Type 0) (old new : List X) → ((x : X) → P x → Q x) → ((x : X) → Q x → P x) → Adds P old new →
    Adds Q old new
adds_as P Q old new there back h = record {
  sound = λ x c. elim (h.sound x c) [ inl before ↦ inl before | inr p ↦ inr (there x p) ];
  keeps = h.keeps;
  complete = λ x q. h.complete x (back x q);
}

-- one after the other
pub adds_both : {X : Type 0} (P Q : X → Type 0) (old middle new : List X) → Adds P old middle → Adds Q middle new →
    Adds (λ x. P x ⊎ Q x) old new
adds_both P Q old middle new h k = record {
  sound = λ x c. elim (k.sound x c) [
    | inl before ↦ elim (h.sound x before) [ inl first ↦ inl first | inr p ↦ inr (inl p) ]
    | inr q ↦ inr (inr q)
  ];
  keeps = λ x c. k.keeps x (h.keeps x c);
  complete = λ x is. elim is [ inl p ↦ k.keeps x (h.complete x p) | inr q ↦ k.complete x q ];
}

pub adds_start : {X : Type 0} (Q : ℕ → X → Type 0) (old : List X) → Adds (λ x. (j : ℕ) × (j < 0) × Q j x) old old
adds_start Q old = adds_nothing (λ x. (j : ℕ) × (j < 0) × Q j x) old (λ x (j, lt, q). omega (arith, lt))

pub adds_next : {X : Type 0} (Q : ℕ → X → Type 0) (n : ℕ) (old middle new : List X) →
    Adds (λ x. (j : ℕ) × (j < n) × Q j x) old middle → Adds (Q n) middle new → Adds (λ x. (j : ℕ) × (j < n + 1) × Q j x) old new
adds_next {X} Q n old middle new h k =
    adds_as (λ x. ((j : ℕ) × (j < n) × Q j x) ⊎ Q n x) (λ x. (j : ℕ) × (j < n + 1) × Q j x) old new there back
    (adds_both (λ x. (j : ℕ) × (j < n) × Q j x) (Q n) old middle new h k)
  where
    there : (x : X) → ((j : ℕ) × (j < n) × Q j x) ⊎ Q n x → (j : ℕ) × (j < n + 1) × Q j x
    there x (inl (j, lt, q)) = (j, omega (arith, lt), q)
    there x (inr q) = (n, omega arith, q)

    back : (x : X) → (j : ℕ) × (j < n + 1) × Q j x → ((j : ℕ) × (j < n) × Q j x) ⊎ Q n x
    back x (j, lt, q) = elim (cases_lt j n) [
      | inl before ↦ inl (j, before, q)
      | inr past ↦ inr (subst (λ i. Q i x) (let e : j ≡ n = omega (arith, past, lt) in e) q)
    ]
