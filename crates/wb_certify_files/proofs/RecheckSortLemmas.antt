-- Refusals of contents are of one sort, where those of the value are that they stand for.
use Rattle.std.proofs.Common.{◌≡◌, inl, inr, ℕ, List, Option, refl, ap, sym, subst, ◌∙◌}
use Rattle.wb_certify_files.specs.declared.extension_refusal.FileRefusal.TheVariants as f
use Rattle.wb_recheck.specs.certify_refusal.CertifyRefusal.{CertifyRefusal}
use Rattle.wb_recheck.specs.HostRefusals.{IsMemory as IsRecheckMemory}
use Rattle.wb_recheck.specs.OneAnswer.{AreAlike, AreOfOneSort, IsFaultMemory, IsOfKinds}
use Rattle.wb_recheck.specs.declared.refusal.RecheckRefusal.{RecheckRefusal}
use Rattle.wb_recheck.specs.declared.refusal.RecheckRefusal.TheVariants as r
use Rattle.wb_recheck_entries.specs.declared.fault.CertificateFault.{CertificateFault}
use Rattle.wb_recheck_entries.specs.declared.fault.CertificateFault.TheVariants as t
use Rattle.wb_report.specs.declared.certificate_reason.CertificateReason.TheVariants as q
use Rattle.wb_report.specs.declared.refusal.Refusal.{Refusal}
use Rattle.wb_syntax_resolved.specs.declared.resolved.ResolvedParts.{ResolvedParts}
use Rattle.wb_certify_files.specs.OneRecheckAnswer.{Sort, at_place, for_host, is_missing, of_certification, of_specification, on_line}
use Rattle.wb_certify_files.specs.OneRecheckAnswer.{out_of_memory, sort_of}
use Rattle.wb_certify_files.specs.RecheckRefusals.{FailsRule, HasFault, IsMemory, IsTrueRefusal}
use Rattle.wb_certify_files.specs.declared.contents_refusal.ContentsRefusal.{ContentsRefusal}
use Rattle.wb_certify_files.specs.declared.contents_refusal.ContentsRefusal.TheVariants as k
use Rattle.wb_certify_files.proofs.RecheckShownLemmas.{Holds}

-- contents stand for one value at most, or for none, or name one other host; and refusals of a value are of one sort
pub record AreFixed (Stands : ResolvedParts → Type 0) (Rule : ResolvedParts → CertifyRefusal → Type 0)
    (Fault : ResolvedParts → CertificateFault → Type 0) (Unresolved : Refusal → Type 0) (Other : List ℕ → Type 0) : Type 0 where
  pub one_value : (x y : ResolvedParts) → Stands x → Stands y → x ≡ y
  pub resolved : (shown : Refusal) (value : ResolvedParts) → Stands value → Unresolved shown → ⊥
  pub own : (name : List ℕ) (value : ResolvedParts) → Stands value → Other name → ⊥
  pub apart : (shown : Refusal) (name : List ℕ) → Unresolved shown → Other name → ⊥
  pub one_other : (name other : List ℕ) → Other name → Other other → name ≡ other
  pub sorts : (value : ResolvedParts) → AreOfOneSort (Rule value) (Fault value)

-- the sort of the refusal of a text
abbrev fault_sort : CertificateFault → Sort
fault_sort (t.Syntax place) = at_place place
fault_sort (t.WrongLine number) = on_line number
fault_sort (t.Missing kernel) = is_missing
fault_sort (t.NoMemory error) = out_of_memory

-- faults that are alike are of one sort
same_fault : (x y : CertificateFault) → AreAlike x y → ¬ IsFaultMemory x → ¬ IsFaultMemory y → fault_sort x ≡ fault_sort y
same_fault (t.Syntax p) (t.Syntax q) same first second = ap at_place same
same_fault (t.Syntax p) (t.WrongLine n) same first second = absurd same
same_fault (t.Syntax p) (t.Missing m) same first second = absurd same
same_fault (t.Syntax p) (t.NoMemory error) same first second = absurd (second tt)
same_fault (t.WrongLine n) (t.Syntax q) same first second = absurd same
same_fault (t.WrongLine n) (t.WrongLine m) same first second = ap on_line same
same_fault (t.WrongLine n) (t.Missing m) same first second = absurd same
same_fault (t.WrongLine n) (t.NoMemory error) same first second = absurd (second tt)
same_fault (t.Missing n) (t.Syntax q) same first second = absurd same
same_fault (t.Missing n) (t.WrongLine m) same first second = absurd same
same_fault (t.Missing n) (t.Missing m) same first second = refl
same_fault (t.Missing n) (t.NoMemory error) same first second = absurd (second tt)
same_fault (t.NoMemory error) y same first second = absurd (first tt)

module _ (Stands : ResolvedParts → Type 0) (Rule : ResolvedParts → CertifyRefusal → Type 0)
    (Fault : ResolvedParts → CertificateFault → Type 0) (line_of : ResolvedParts → CertifyRefusal → Option Refusal)
    (Unresolved : Refusal → Type 0) (Other : List ℕ → Type 0) where
  -- why contents have a refusal of this sort
  data Cause (sort : Sort) : Type 0 where
    no_value : (shown : Refusal) → Unresolved shown → sort ≡ of_specification → Cause sort
    other_host : (name : List ℕ) → Other name → sort ≡ for_host name → Cause sort
    by_kinds : (shown : Refusal) → FailsRule Stands Rule Fault line_of IsOfKinds shown → sort ≡ of_specification → Cause sort
    by_rule : (shown : Refusal) → FailsRule Stands Rule Fault line_of (λ refusal. ¬ IsOfKinds refusal) shown → sort ≡ of_certification
        → Cause sort
    of_text : (fault : CertificateFault) → HasFault Stands Rule Fault line_of fault → ¬ IsFaultMemory fault → sort ≡ fault_sort fault
        → Cause sort

  cause_of : (x : ContentsRefusal) → IsTrueRefusal Stands Rule Fault line_of Unresolved Other x → ¬ IsMemory x → Cause (sort_of x)
  cause_of (k.File (f.Specification shown)) (inl none) other = no_value shown none refl
  cause_of (k.File (f.Specification shown)) (inr fails) other = by_kinds shown fails refl
  cause_of (k.File (f.WrongHost name)) is other = other_host name is refl
  cause_of (k.File (f.Certification shown)) fails other = by_rule shown fails refl
  cause_of (k.File (f.NoMemory error)) is other = absurd (other tt)
  cause_of (k.Certificate (q.Syntax place)) has other = of_text (t.Syntax place) has (λ z. z) refl
  cause_of (k.Certificate (q.WrongLine number)) has other = of_text (t.WrongLine number) has (λ z. z) refl
  cause_of (k.Certificate (q.Missing kernel)) has other = of_text (t.Missing kernel) has (λ z. z) refl
  cause_of (k.Certificate q.TooLong) is other = absurd is

  module _ (fixed : AreFixed Stands Rule Fault Unresolved Other) where
    -- rules of kinds and other rules don't both fail
    kinds_or_rule : (x y : Refusal) → FailsRule Stands Rule Fault line_of IsOfKinds x
        → FailsRule Stands Rule Fault line_of (λ refusal. ¬ IsOfKinds refusal) y → ⊥
    kinds_or_rule x y p q =
        let reason = subst (λ (v : ResolvedParts). Rule v p.refusal) (fixed.one_value p.value q.value p.stands q.stands) p.reason in
        q.meets ((fixed.sorts q.value).kinds p.refusal q.refusal reason q.reason p.meets)

    -- where a rule fails the text has no fault
    rule_or_fault : (Meets : CertifyRefusal → Type 0) (x : Refusal) (fault : CertificateFault)
        → FailsRule Stands Rule Fault line_of Meets x → HasFault Stands Rule Fault line_of fault → IsFaultMemory fault
    rule_or_fault Meets x fault p q =
        let reason = subst (λ (v : ResolvedParts). Rule v p.refusal) (fixed.one_value p.value q.value p.stands q.stands) p.reason in
        (fixed.sorts q.value).rule_or_text p.refusal fault reason q.reason

    alike : (x y : CertificateFault) → HasFault Stands Rule Fault line_of x → HasFault Stands Rule Fault line_of y → AreAlike x y
    alike x y p q =
        let reason = subst (λ (v : ResolvedParts). Fault v x) (fixed.one_value p.value q.value p.stands q.stands) p.reason in
        (fixed.sorts q.value).one_text x y reason q.reason

    one_cause : (a b : Sort) → Cause a → Cause b → a ≡ b
    one_cause a b (no_value x p is) (no_value y q same) = is ∙ sym same
    one_cause a b (no_value x p is) (other_host name q same) = absurd (fixed.apart x name p q)
    one_cause a b (no_value x p is) (by_kinds y q same) = is ∙ sym same
    one_cause a b (no_value x p is) (by_rule y q same) = absurd (fixed.resolved x q.value q.stands p)
    one_cause a b (no_value x p is) (of_text fault q other same) = absurd (fixed.resolved x q.value q.stands p)
    one_cause a b (other_host name p is) (no_value y q same) = absurd (fixed.apart y name q p)
    one_cause a b (other_host name p is) (other_host name' q same) = is ∙ (ap for_host (fixed.one_other name name' p q) ∙ sym same)
    one_cause a b (other_host name p is) (by_kinds y q same) = absurd (fixed.own name q.value q.stands p)
    one_cause a b (other_host name p is) (by_rule y q same) = absurd (fixed.own name q.value q.stands p)
    one_cause a b (other_host name p is) (of_text fault q other same) = absurd (fixed.own name q.value q.stands p)
    one_cause a b (by_kinds x p is) (no_value y q same) = is ∙ sym same
    one_cause a b (by_kinds x p is) (other_host name q same) = absurd (fixed.own name p.value p.stands q)
    one_cause a b (by_kinds x p is) (by_kinds y q same) = is ∙ sym same
    one_cause a b (by_kinds x p is) (by_rule y q same) = absurd (kinds_or_rule x y p q)
    one_cause a b (by_kinds x p is) (of_text fault q other same) = absurd (other (rule_or_fault IsOfKinds x fault p q))
    one_cause a b (by_rule x p is) (no_value y q same) = absurd (fixed.resolved y p.value p.stands q)
    one_cause a b (by_rule x p is) (other_host name q same) = absurd (fixed.own name p.value p.stands q)
    one_cause a b (by_rule x p is) (by_kinds y q same) = absurd (kinds_or_rule y x q p)
    one_cause a b (by_rule x p is) (by_rule y q same) = is ∙ sym same
    one_cause a b (by_rule x p is) (of_text fault q other same) =
        absurd (other (rule_or_fault (λ refusal. ¬ IsOfKinds refusal) x fault p q))
    one_cause a b (of_text fault p other is) (no_value y q same) = absurd (fixed.resolved y p.value p.stands q)
    one_cause a b (of_text fault p other is) (other_host name q same) = absurd (fixed.own name p.value p.stands q)
    one_cause a b (of_text fault p other is) (by_kinds y q same) = absurd (other (rule_or_fault IsOfKinds y fault q p))
    one_cause a b (of_text fault p other is) (by_rule y q same) =
        absurd (other (rule_or_fault (λ refusal. ¬ IsOfKinds refusal) y fault q p))
    one_cause a b (of_text fault p other is) (of_text fault' q other' same) =
        is ∙ (same_fault fault fault' (alike fault fault' p q) other other' ∙ sym same)

    pub one_sort : (x y : ContentsRefusal) → IsTrueRefusal Stands Rule Fault line_of Unresolved Other x
        → IsTrueRefusal Stands Rule Fault line_of Unresolved Other y → ¬ IsMemory x → ¬ IsMemory y → sort_of x ≡ sort_of y
    one_sort x y p q first second = one_cause (sort_of x) (sort_of y) (cause_of x p first) (cause_of y q second)

    module _ (value : ResolvedParts) (stands : Stands value)
        (none : (refusal : RecheckRefusal) → Holds (Rule value) (Fault value) refusal → IsRecheckMemory refusal) where
      rule_here : (Meets : CertifyRefusal → Type 0) (shown : Refusal) → FailsRule Stands Rule Fault line_of Meets shown → ⊥
      rule_here Meets shown p =
          none (r.Certify p.refusal)
          (subst (λ (v : ResolvedParts). Rule v p.refusal) (fixed.one_value p.value value p.stands stands) p.reason)

      fault_here : (fault : CertificateFault) → HasFault Stands Rule Fault line_of fault → Fault value fault
      fault_here fault p = subst (λ (v : ResolvedParts). Fault v fault) (fixed.one_value p.value value p.stands stands) p.reason

      -- contents whose value isn't refused aren't refused
      pub none_refused : (x : ContentsRefusal) → IsTrueRefusal Stands Rule Fault line_of Unresolved Other x → IsMemory x
      none_refused (k.File (f.Specification shown)) (inl is) = absurd (fixed.resolved shown value stands is)
      none_refused (k.File (f.Specification shown)) (inr is) = absurd (rule_here IsOfKinds shown is)
      none_refused (k.File (f.WrongHost name)) is = absurd (fixed.own name value stands is)
      none_refused (k.File (f.Certification shown)) is = absurd (rule_here (λ refusal. ¬ IsOfKinds refusal) shown is)
      none_refused (k.File (f.NoMemory error)) is = tt
      none_refused (k.Certificate (q.Syntax place)) is = none (r.Syntax place) (fault_here (t.Syntax place) is)
      none_refused (k.Certificate (q.WrongLine number)) is = none (r.WrongLine number) (fault_here (t.WrongLine number) is)
      none_refused (k.Certificate (q.Missing kernel)) is = none (r.Missing kernel) (fault_here (t.Missing kernel) is)
      none_refused (k.Certificate q.TooLong) is = absurd is
