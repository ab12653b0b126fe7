-- Sets of a union to which terminals are added at items.
use Rattle.std.proofs.Common.{◌+◌, ◌<◌, ◌≡◌, ◌⊎◌, Bool, List, arith, inl, inr, refl, subst, sym, ℕ, Some}
use Rattle.std.specs.Prelude.{◌↔◌, Contains, slice_get}
use Rattle.std.proofs.lemmas.Bool.{cases_lt}
use Rattle.wb_lemmas.proofs.Members.{contains_at}
use Rattle.wb_termset.specs.Sets.{IsMember}
use Rattle.wb_grammar_theory.specs.declared.item.Item.{Item}
use Rattle.wb_items.proofs.CallerLemmas.{apart_kept, lists_added, lists_kept, lists_new, row_items, shape_kept}
use Rattle.wb_items.specs.Apart.{BelongTogether}
use Rattle.wb_items.specs.Kernels.{AreKernels, KernelsView, closure_of}
use Rattle.wb_items.specs.Lookaheads.{Lists, LookaheadsView, Unites, items_in, row_of}
use Rattle.wb_compose_kernels.specs.Inner.Filling.{Gains, IsMaking}

module _ (kernels : KernelsView) where
  -- nothing has it
  pub gains_nothing : (P : ℕ → Item → ℕ → Type 0) (old : LookaheadsView) → IsMaking kernels old →
      ((s : ℕ) (one : Item) (t : ℕ) → P s one t → Contains (closure_of kernels s) one → ⊥) → Gains kernels P old old
  gains_nothing P old making never = record {
    making = making;
    sound = λ s item t lists. inl lists;
    keeps = λ s item t lists. lists;
    complete = λ s one t p has. absurd (never s one t p has);
  }

  -- the same in other words
  pub gains_as : (P Q : ℕ → Item → ℕ → Type 0) (old new : LookaheadsView) → ((s : ℕ) (one : Item) (t : ℕ) → P s one t → Q s one t) →
      ((s : ℕ) (one : Item) (t : ℕ) → Q s one t → P s one t) → Gains kernels P old new → Gains kernels Q old new
  gains_as P Q old new there back h = record {
    making = h.making;
    sound = λ s item t lists. elim (h.sound s item t lists) [
      | inl before ↦ inl before
      | inr (one, p, has, belong) ↦ inr (one, there s one t p, has, belong)
    ];
    keeps = h.keeps;
    complete = λ s one t q has. h.complete s one t (back s one t q) has;
  }

  -- one after the other
  pub gains_both : (P Q : ℕ → Item → ℕ → Type 0) (old middle new : LookaheadsView) → Gains kernels P old middle →
      Gains kernels Q middle new → Gains kernels (λ s one t. P s one t ⊎ Q s one t) old new
  gains_both P Q old middle new h k = record {
    making = k.making;
    sound = λ s item t lists. elim (k.sound s item t lists) [
      | inl before ↦ elim (h.sound s item t before) [
        | inl first ↦ inl first
        | inr (one, p, has, belong) ↦ inr (one, inl p, has, belong)
      ]
      | inr (one, q, has, belong) ↦ inr (one, inr q, has, belong)
    ];
    keeps = λ s item t lists. k.keeps s item t (h.keeps s item t lists);
    complete = λ s one t either has. elim either [
      | inl p ↦ k.keeps s one t (h.complete s one t p has)
      | inr q ↦ k.complete s one t q has
    ];
  }

  -- at the first places
  abbrev pub IsGainBelow : (ℕ → ℕ → Item → ℕ → Type 0) → ℕ → ℕ → Item → ℕ → Type 0
  IsGainBelow Q n s one t = (j : ℕ) × (j < n) × Q j s one t

  pub gains_start : (Q : ℕ → ℕ → Item → ℕ → Type 0) (old : LookaheadsView) → IsMaking kernels old → Gains kernels (IsGainBelow Q 0) old old
  gains_start Q old making = gains_nothing (IsGainBelow Q 0) old making (λ s one t (j, less, q) has. omega (arith, less))

  pub gains_next : (Q : ℕ → ℕ → Item → ℕ → Type 0) (n : ℕ) (old middle new : LookaheadsView) →
      Gains kernels (IsGainBelow Q n) old middle → Gains kernels (Q n) middle new → Gains kernels (IsGainBelow Q (n + 1)) old new
  gains_next Q n old middle new h k =
      gains_as (λ s one t. IsGainBelow Q n s one t ⊎ Q n s one t) (IsGainBelow Q (n + 1)) old new there back
      (gains_both (IsGainBelow Q n) (Q n) old middle new h k)
    where
      there : (s : ℕ) (one : Item) (t : ℕ) → IsGainBelow Q n s one t ⊎ Q n s one t → IsGainBelow Q (n + 1) s one t
      there s one t (inl (j, lt, q)) = (j, omega (arith, lt), q)
      there s one t (inr q) = (n, omega arith, q)

      back : (s : ℕ) (one : Item) (t : ℕ) → IsGainBelow Q (n + 1) s one t → IsGainBelow Q n s one t ⊎ Q n s one t
      back s one t (j, lt, q) = elim (cases_lt j n) [
        | inl before ↦ inl (j, before, q)
        | inr past ↦ inr (subst (λ i. Q i s one t) (let e : j ≡ n = omega (arith, past, lt) in e) q)
      ]

  -- a set was united with that at an item
  module _ (are : AreKernels kernels) (old new : LookaheadsView) (making : IsMaking kernels old) (number place : ℕ) (item : Item)
      (at : slice_get (items_in (row_of old number)) place ≡ Some item) (image : List Bool) (u : Unites old number item image new)
    where
      here : Contains (closure_of kernels number) item
      here = subst (λ z. Contains z item) (row_items are old making.shape number) (contains_at (items_in (row_of old number)) item place at)

      pub gains_unite : (Q : ℕ → Type 0) → ((t : ℕ) → IsMember image t ↔ Q t) →
          Gains kernels (λ s one t. (s ≡ number) × (one ≡ item) × Q t) old new
      gains_unite Q each = record {
        making = record { shape = shape_kept u making.shape; apart = apart_kept u kernels.grammar making.apart };
        sound = sound;
        keeps = λ s i t lists. lists_kept u s i t lists;
        complete = λ s one t (s_is, one_is, q) has.
            subst (λ z. Lists new z one t) (sym s_is)
            (subst (λ z. Lists new number z t) (sym one_is) (lists_added u t ((each t).1 q)));
      }
        where
          sound : (s : ℕ) (i : Item) (t : ℕ) → Lists new s i t → Lists old s i t ⊎
              ((one : Item) × ((s ≡ number) × (one ≡ item) × Q t) × Contains (closure_of kernels s) one ×
              BelongTogether kernels.grammar one i)
          sound s i t lists = elim (lists_new u s i t lists) [
            | inl before ↦ inl before
            | inr ((n, one, other), has) ↦ (let (same, belong) = (making.apart number s item i n n one other).0 refl in
                inr (item, (sym same, refl, (each t).0 has), subst (λ z. Contains (closure_of kernels z) item) same here, belong))
          ]

  -- the kernel hasn't the item
  pub gains_absent : AreKernels kernels → (old : LookaheadsView) → IsMaking kernels old → (number : ℕ) (item : Item) →
      ¬ Contains (items_in (row_of old number)) item → (Q : ℕ → Type 0) →
      Gains kernels (λ s one t. (s ≡ number) × (one ≡ item) × Q t) old old
  gains_absent are old making number item none Q =
      gains_nothing (λ s one t. (s ≡ number) × (one ≡ item) × Q t) old making (λ s one t (s_is, one_is, q) has.
      none (subst (λ z. Contains z item) (sym (row_items are old making.shape number))
      (subst (λ z. Contains (closure_of kernels z) item) s_is (subst (Contains (closure_of kernels s)) one_is has))))
