-- A text of a certificate has no fault, and others have one first fault.
use Rattle.std.proofs.Common.{◌≡◌, ◌≢◌, ◌<◌, ◌≤◌, ◌⊎◌, ℕ, suc, List, [], ◌∷◌}
use Rattle.std.proofs.Common.{◌++◌, length, length-append, refl, sym, ap, ◌∙◌, subst, inl, inr, arith}
use Rattle.std.proofs.lemmas.Bool.{cases_lt}
use Rattle.wb_lemmas.proofs.Parts.{append_assoc}
use Rattle.wb_recheck_text.specs.declared.certificate.Certificate.{Certificate}
use Rattle.wb_recheck_text.specs.Text.{certificate_text}
use Rattle.wb_recheck_text.specs.Faults.{CanGoOn, IsFirstFault, IsStuck, IsTextOf, IsWritable}
use Rattle.wb_recheck_text.proofs.StopLemmas.{append_cases, append_none}

pub printed : (c : Certificate) → IsWritable c → IsTextOf (certificate_text c) c
printed c writable = record { writable = writable; is = refl }

-- no text of a certificate is stuck
stuck_never : (front rest : List ℕ) (c : Certificate) → IsTextOf (front ++ rest) c → IsStuck front rest → ⊥
stuck_never front [] c t stuck = stuck c (subst (λ z. IsTextOf z c) (append_none front) t)
stuck_never front (b ∷ rest) c t stuck = stuck (rest, c, subst (λ z. IsTextOf z c) (sym (append_assoc front (b ∷ []) rest)) t)

pub no_fault : (text : List ℕ) (c : Certificate) (at : ℕ) → IsTextOf text c → ¬ IsFirstFault text at
no_fault text c at t fault = stuck_never fault.front fault.rest c (subst (λ z. IsTextOf z c) fault.split t) fault.stuck

-- a shorter front isn't stuck where a longer one can go on
module _ (front rest longer after m : List ℕ) where
  earlier_goes_on : (b : ℕ) → longer ≡ front ++ b ∷ m → rest ≡ b ∷ (m ++ after) → CanGoOn longer → IsStuck front rest → ⊥
  earlier_goes_on b is same (more, c, t) stuck =
      let stuck_at : IsStuck front (b ∷ (m ++ after)) = subst (IsStuck front) same stuck in
      stuck_at (
        m ++ more,
        c,
        subst (λ z. IsTextOf z c)
            (ap (λ z. z ++ more) is ∙ (append_assoc front (b ∷ m) more ∙ sym (append_assoc front (b ∷ []) (m ++ more)))) t,
      )

below : (text : List ℕ) (m n : ℕ) → IsFirstFault text m → IsFirstFault text n → m < n → ⊥
below text m n f g lt =
    elim (append_cases f.front f.rest g.front g.rest (sym f.split ∙ g.split)) [
      | inl (x, is, other) ↦ shorter x is
      | inr (x, is, other) ↦ longer x is other
    ]
  where
    shorter : (x : List ℕ) → f.front ≡ g.front ++ x → ⊥
    shorter x is =
        let long = ap length is in
        let parts = length-append g.front x in
        let p = f.place in
        let q = g.place in
        omega (arith, long, parts, p, q, lt)

    longer : (x : List ℕ) → g.front ≡ f.front ++ x → f.rest ≡ x ++ g.rest → ⊥
    longer [] is other =
        let long = ap length is in
        let parts = length-append f.front [] in
        let p = f.place in
        let q = g.place in
        omega (arith, long, parts, p, q, lt)
    longer (b ∷ x) is other = earlier_goes_on f.front f.rest g.front g.rest x b is other g.before f.stuck

pub one_fault : (text : List ℕ) (m n : ℕ) → IsFirstFault text m → IsFirstFault text n → m ≡ n
one_fault text m n f g = elim (cases_lt m n) [
  | inl lt ↦ absurd (below text m n f g lt)
  | inr le ↦ elim (cases_lt n m) [ inl lt ↦ absurd (below text n m g f lt) | inr le' ↦ omega (arith, le, le') ]
]
