-- The terminals that become those of a set, one after another.
use Rattle.std.proofs.Common.{◌≡◌, ◌+◌, ◌<◌, ◌≤◌, ◌∙◌, ◌++◌, ◌∷◌, [], Bool, List, ℕ, Some, length, length-set, replicate, refl, sym}
use Rattle.std.proofs.Common.{ap, subst, inl, inr}
use Rattle.std.proofs.Common.{false, true, arith}
use Rattle.std.specs.Prelude.{Option, None, slice_get, slice_set}
use Rattle.std.proofs.lemmas.Bool.{cases_eq}
use Rattle.std.proofs.lemmas.List.{length-replicate}
use Rattle.std.proofs.lemmas.Option.{slice_get_within}
use Rattle.wb_lemmas.proofs.Places.{at_push, default_at}
use Rattle.wb_termset.specs.Sets.{IsMember}
use Rattle.wb_termset.proofs.CallerLemmas.{IsEmpty-replicate, IsMember-insert, IsMember-insert_same, IsSubset-insert}
use Rattle.wb_items.specs.Lookaheads.{set_of}
use Rattle.wb_determinism_kernels.specs.declared.numbers.Numbers.{Numbers}
use Rattle.wb_determinism_kernels.specs.Numbers.{image_or, phi_by, up_by}
use Rattle.wb_determinism_lookaheads.specs.declared.context.Context.{Context}
use Rattle.wb_determinism_lookaheads.specs.declared.lifts.Lift.{Lift}
use Rattle.wb_determinism_lookaheads.specs.Inner.Spreading.{AreLifts, Becomes, IsLifted, LiftedUpTo, both_of}

module _ (c : Context) (set : List Bool) where
  pub lifted_none : (lifted : List Bool) (count : ℕ) → count ≡ (both_of c).terminals + 1 → lifted ≡ replicate count false →
      LiftedUpTo c set lifted 0
  lifted_none lifted count count_is is = record {
    len = ap length is ∙ (length-replicate count false ∙ count_is);
    each = λ t lt x. absurd (omega (arith, lt));
    only = λ t has. absurd (IsEmpty-replicate count t (subst (λ z. IsMember z t) is has));
  }

  pub lifted_more : (old new : List Bool) (n : ℕ) → LiftedUpTo c set old n → n < length old → Becomes c set n → new ≡ slice_set old n true →
      LiftedUpTo c set new (n + 1)
  lifted_more old new n h lt here is = subst (λ z. LiftedUpTo c set z (n + 1)) (sym is) (record {
    len = length-set old n true ∙ h.len;
    each = λ t below x. elim (cases_eq t n) [
      | inl same ↦ subst (IsMember (slice_set old n true)) (sym same) (IsMember-insert_same old n lt)
      | inr other ↦ IsSubset-insert old n t (h.each t (omega (arith, below, other)) x)
    ];
    only = λ t has. elim (IsMember-insert old n t has) [
      | inl before ↦ h.only t before
      | inr same ↦ subst (Becomes c set) (sym same) here
    ];
  })

  pub lifted_pass : (old : List Bool) (n : ℕ) → LiftedUpTo c set old n → (Becomes c set n → ⊥) → LiftedUpTo c set old (n + 1)
  lifted_pass old n h not = record {
    len = h.len;
    each = λ t below x. elim (cases_eq t n) [
      | inl same ↦ absurd (not (subst (Becomes c set) same x))
      | inr other ↦ h.each t (omega (arith, below, other)) x
    ];
    only = h.only;
  }

  pub lifted_all : (lifted : List Bool) (n : ℕ) → LiftedUpTo c set lifted n → (both_of c).terminals + 1 ≤ n → IsLifted c set lifted
  lifted_all lifted n h past = record { len = h.len; each = λ t le x. h.each t (omega (arith, le, past)) x; only = h.only }

-- what a table has for a terminal
pub image_there : (m : Numbers) (images : List (Option ℕ)) (t u : ℕ) → slice_get images t ≡ Some (Some u) →
    (up_by m).terminal u ≡ phi_by m images t
image_there m images t u at = ap (λ z. image_or m z t) (sym at)

pub image_itself : (m : Numbers) (images : List (Option ℕ)) (t : ℕ) → slice_get images t ≡ Some None → phi_by m images t ≡ t
image_itself m images t at = ap (λ z. image_or m z t) at

pub image_past : (m : Numbers) (images : List (Option ℕ)) (t : ℕ) → length images ≤ t → phi_by m images t ≡ t
image_past m images t le = by (slice_get images t) refl
  where
    by : (found : Option (Option ℕ)) → slice_get images t ≡ found → image_or m found t ≡ t
    by None e = refl
    by (Some u) e = absurd (let w = slice_get_within images t u e in omega (arith, w, le))

-- a set with its number
abbrev pub lift_with : ℕ → List Bool → Lift
lift_with n s = record { number = n; set = s }

-- one set more
pub lifts_more : (c : Context) (old new : List Lift) (number : ℕ) (own set : List Bool) → AreLifts c old →
    slice_get c.known.now.sets number ≡ Some own → IsLifted c own set → new ≡ old ++ lift_with number set ∷ [] → AreLifts c new
lifts_more c old new number own set are there l is = λ i lift at.
    elim (at_push old (lift_with number set) lift i (subst (λ z. slice_get z i ≡ Some lift) is at)) [
      | inl before ↦ are i lift before
      | inr (i_is, same) ↦ subst (λ z. IsLifted c (set_of c.known.now z.number) z.set) same
          (subst (λ z. IsLifted c z set) (sym (default_at c.known.now.sets number [] own there)) l)
    ]
