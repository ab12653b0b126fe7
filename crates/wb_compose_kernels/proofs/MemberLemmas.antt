-- Sets to which numbers that have a property are added.
use Rattle.std.proofs.Common.{◌+◌, ◌<◌, ◌≤◌, ◌∙◌, ◌≡◌, ◌⊎◌, Bool, List, arith, inl, inr, length, length-set, refl, subst, sym, ℕ, true}
use Rattle.std.specs.Prelude.{slice_set}
use Rattle.std.proofs.lemmas.Bool.{cases_lt}
use Rattle.wb_termset.specs.Sets.{HasNoneFrom, IsMember, IsNextMember}
use Rattle.wb_termset.proofs.CallerLemmas.{IsMember-insert, IsMember-insert_same, IsSubset-insert}
use Rattle.wb_compose_kernels.specs.Inner.Images.{AddsMembers}

-- nothing has it
pub members_nothing : (P : ℕ → Type 0) (old : List Bool) → ((t : ℕ) → P t → t < length old → ⊥) → AddsMembers P old old
members_nothing P old never = record {
  len = refl;
  sound = λ t has. inl has;
  keeps = λ t has. has;
  complete = λ t p lt. absurd (never t p lt);
}

-- one has it, which was inserted
pub members_one : (old new : List Bool) (n : ℕ) → n < length old → new ≡ slice_set old n true → AddsMembers (λ t. t ≡ n) old new
members_one old new n lt is = subst (AddsMembers (λ t. t ≡ n) old) (sym is) (record {
  len = length-set old n true;
  sound = λ t has. IsMember-insert old n t has;
  keeps = λ t has. IsSubset-insert old n t has;
  complete = λ t same _. subst (IsMember (slice_set old n true)) (sym same) (IsMember-insert_same old n lt);
})

-- or there was no room for it
pub members_past : (old : List Bool) (n : ℕ) → length old ≤ n → AddsMembers (λ t. t ≡ n) old old
members_past old n past = members_nothing (λ t. t ≡ n) old (λ t same lt. omega (arith, same, lt, past))

-- the same in other words
pub members_as : (P Q : ℕ → Type 0) (old new : List Bool) → ((t : ℕ) → P t → Q t) → ((t : ℕ) → Q t → P t) → AddsMembers P old new →
    AddsMembers Q old new
members_as P Q old new there back h = record {
  len = h.len;
  sound = λ t has. elim (h.sound t has) [ inl before ↦ inl before | inr p ↦ inr (there t p) ];
  keeps = h.keeps;
  complete = λ t q lt. h.complete t (back t q) lt;
}

-- one after the other
pub members_both : (P Q : ℕ → Type 0) (old middle new : List Bool) → AddsMembers P old middle → AddsMembers Q middle new →
    AddsMembers (λ t. P t ⊎ Q t) old new
members_both P Q old middle new h k = record {
  len = k.len ∙ h.len;
  sound = λ t has. elim (k.sound t has) [
    | inl before ↦ elim (h.sound t before) [ inl first ↦ inl first | inr p ↦ inr (inl p) ]
    | inr q ↦ inr (inr q)
  ];
  keeps = λ t has. k.keeps t (h.keeps t has);
  complete = λ t either lt. elim either [
    | inl p ↦ k.keeps t (h.complete t p lt)
    | inr q ↦ k.complete t q (let e = h.len in omega (arith, lt, e))
  ];
}

-- those of the first places
pub members_start : (Q : ℕ → ℕ → Type 0) (old : List Bool) → AddsMembers (λ t. (j : ℕ) × (j < 0) × Q j t) old old
members_start Q old = members_nothing (λ t. (j : ℕ) × (j < 0) × Q j t) old (λ t (j, less, q) lt. omega (arith, less))

pub members_next : (Q : ℕ → ℕ → Type 0) (n : ℕ) (old middle new : List Bool) → AddsMembers (λ t. (j : ℕ) × (j < n) × Q j t) old middle →
    AddsMembers (Q n) middle new → AddsMembers (λ t. (j : ℕ) × (j < n + 1) × Q j t) old new
members_next Q n old middle new h k =
    members_as (λ t. ((j : ℕ) × (j < n) × Q j t) ⊎ Q n t) (λ t. (j : ℕ) × (j < n + 1) × Q j t) old new there back
    (members_both (λ t. (j : ℕ) × (j < n) × Q j t) (Q n) old middle new h k)
  where
    there : (t : ℕ) → ((j : ℕ) × (j < n) × Q j t) ⊎ Q n t → (j : ℕ) × (j < n + 1) × Q j t
    there t (inl (j, lt, q)) = (j, omega (arith, lt), q)
    there t (inr q) = (n, omega arith, q)

    back : (t : ℕ) → (j : ℕ) × (j < n + 1) × Q j t → ((j : ℕ) × (j < n) × Q j t) ⊎ Q n t
    back t (j, lt, q) = elim (cases_lt j n) [
      | inl before ↦ inl (j, before, q)
      | inr past ↦ inr (subst (λ i. Q i t) (let e : j ≡ n = omega (arith, past, lt) in e) q)
    ]

-- what comes of the members of a set below a number
module _ (set : List Bool) (Q : ℕ → ℕ → Type 0) where
  abbrev pub ComesBelow : ℕ → ℕ → Type 0
  ComesBelow n t = (own : ℕ) × (own < n) × IsMember set own × Q own t

  pub comes_start : (old : List Bool) → AddsMembers (ComesBelow 0) old old
  comes_start old = members_nothing (ComesBelow 0) old (λ t (own, less, has, q) lt. omega (arith, less))

  -- of the next member
  pub comes_next : (from n : ℕ) (old middle new : List Bool) → IsNextMember set from n → AddsMembers (ComesBelow from) old middle →
      AddsMembers (Q n) middle new → AddsMembers (ComesBelow (n + 1)) old new
  comes_next from n old middle new next h k =
      members_as (λ t. ComesBelow from t ⊎ Q n t) (ComesBelow (n + 1)) old new there back
      (members_both (ComesBelow from) (Q n) old middle new h k)
    where
      there : (t : ℕ) → ComesBelow from t ⊎ Q n t → ComesBelow (n + 1) t
      there t (inl (own, lt, has, q)) = (own, (let le = next.from_on in omega (arith, lt, le)), has, q)
      there t (inr q) = (n, omega arith, next.member, q)

      back : (t : ℕ) → ComesBelow (n + 1) t → ComesBelow from t ⊎ Q n t
      back t (own, lt, has, q) = elim (cases_lt own from) [
        | inl before ↦ inl (own, before, has, q)
        | inr past ↦ elim (cases_lt own n) [
          | inl between ↦ absurd (next.least own past between has)
          | inr far ↦ inr (subst (λ i. Q i t) (let e : own ≡ n = omega (arith, far, lt) in e) q)
        ]
      ]

  -- of all
  pub comes_all : (from : ℕ) (old new : List Bool) → HasNoneFrom set from → AddsMembers (ComesBelow from) old new →
      AddsMembers (λ t. (own : ℕ) × IsMember set own × Q own t) old new
  comes_all from old new none h =
      members_as (ComesBelow from) (λ t. (own : ℕ) × IsMember set own × Q own t) old new
      (λ t (own, lt, has, q). (own, has, q)) back h
    where
      back : (t : ℕ) → (own : ℕ) × IsMember set own × Q own t → ComesBelow from t
      back t (own, has, q) = elim (cases_lt own from) [
        | inl before ↦ (own, before, has, q)
        | inr past ↦ absurd (none own past has)
      ]
