-- What is shown of a value is true of the contents that stand for it.
use Rattle.std.proofs.Common.{◌≡◌, inr, ℕ, List, Option, Some, ap, sym, subst}
use Rattle.wb_certify_files.specs.declared.extension_refusal.FileRefusal.{FileRefusal}
use Rattle.wb_certify_files.specs.declared.extension_refusal.FileRefusal.TheVariants as f
use Rattle.wb_recheck.specs.certify_refusal.CertifyRefusal.{CertifyRefusal}
use Rattle.wb_recheck.specs.certify_refusal.CertifyRefusal.TheVariants as c
use Rattle.wb_recheck.specs.HostRefusals.{IsInTime}
use Rattle.wb_recheck.specs.declared.refusal.RecheckRefusal.{RecheckRefusal}
use Rattle.wb_recheck.specs.declared.refusal.RecheckRefusal.TheVariants as r
use Rattle.wb_recheck_entries.specs.declared.fault.CertificateFault.{CertificateFault}
use Rattle.wb_recheck_entries.specs.declared.fault.CertificateFault.TheVariants as t
use Rattle.wb_report.specs.declared.refusal.Refusal.{Refusal}
use Rattle.wb_syntax_resolved.specs.declared.resolved.ResolvedParts.{ResolvedParts}
use Rattle.wb_certify_files.specs.Inner.RecheckShown.{IsRuleShown, IsShownAs, sorted}
use Rattle.wb_certify_files.specs.RecheckRefusals.{IsTrueRefusal}
use Rattle.wb_certify_files.specs.declared.contents_refusal.ContentsRefusal.{ContentsRefusal}
use Rattle.wb_certify_files.specs.declared.contents_refusal.ContentsRefusal.TheVariants as k

-- the refusal of a value holds: by a rule, or for a fault of the text; out of memory says nothing
abbrev pub Holds : (Rule : CertifyRefusal → Type 0) → (Fault : CertificateFault → Type 0) → RecheckRefusal → Type 0
Holds Rule Fault (r.Certify rule) = Rule rule
Holds Rule Fault (r.Syntax place) = Fault (t.Syntax place)
Holds Rule Fault (r.WrongLine number) = Fault (t.WrongLine number)
Holds Rule Fault (r.Missing kernel) = Fault (t.Missing kernel)
Holds Rule Fault (r.NoMemory error) = Unit {0}

module _ (Stands : ResolvedParts → Type 0) (Rule : ResolvedParts → CertifyRefusal → Type 0)
    (Fault : ResolvedParts → CertificateFault → Type 0) (line_of : ResolvedParts → CertifyRefusal → Option Refusal)
    (Unresolved : Refusal → Type 0) (Other : List ℕ → Type 0) where
  -- the refusal is true of the contents
  abbrev Is : ContentsRefusal → Type 0
  Is = IsTrueRefusal Stands Rule Fault line_of Unresolved Other

  module _ (value : ResolvedParts) (stands : Stands value) where
    -- a rule that fails for the value
    rule_true : (rule : CertifyRefusal) → Rule value rule → (shown : Refusal) → line_of value rule ≡ Some shown
        → Is (k.File (sorted rule shown))
    rule_true (c.Names x) reason shown shows =
        record { value = value; stands = stands; refusal = c.Names x; reason = reason; meets = λ z. z; shows = shows }
    rule_true (c.Types x) reason shown shows =
        inr (record { value = value; stands = stands; refusal = c.Types x; reason = reason; meets = tt; shows = shows })
    rule_true c.NoStart reason shown shows =
        record { value = value; stands = stands; refusal = c.NoStart; reason = reason; meets = λ z. z; shows = shows }
    rule_true (c.Determinism x) reason shown shows =
        record { value = value; stands = stands; refusal = c.Determinism x; reason = reason; meets = λ z. z; shows = shows }
    rule_true (c.Attributes x) reason shown shows =
        record { value = value; stands = stands; refusal = c.Attributes x; reason = reason; meets = λ z. z; shows = shows }
    rule_true (c.NoMemory x) reason shown shows =
        record { value = value; stands = stands; refusal = c.NoMemory x; reason = reason; meets = λ z. z; shows = shows }

    rule_shown : (rule : CertifyRefusal) → Rule value rule → (handed : ContentsRefusal)
        → IsRuleShown (line_of value rule) rule handed → Is handed
    rule_shown rule reason (k.File (f.Specification x)) (shown, shows, same) =
        subst Is (sym same) (rule_true rule reason shown shows)
    rule_shown rule reason (k.File (f.WrongHost x)) (shown, shows, same) =
        subst Is (sym same) (rule_true rule reason shown shows)
    rule_shown rule reason (k.File (f.Certification x)) (shown, shows, same) =
        subst Is (sym same) (rule_true rule reason shown shows)
    rule_shown rule reason (k.File (f.NoMemory error)) is = tt
    rule_shown rule reason (k.Certificate x) (shown, shows, same) =
        subst Is (sym same) (rule_true rule reason shown shows)

    -- a refusal of the value
    pub shown_true : (refusal : RecheckRefusal) → Holds (Rule value) (Fault value) refusal → (handed : ContentsRefusal)
        → IsShownAs (line_of value) refusal handed → Is handed
    shown_true (r.Certify rule) reason handed is = rule_shown rule reason handed is
    shown_true (r.Syntax place) reason handed is = subst Is (sym is) (record { value = value; stands = stands; reason = reason })
    shown_true (r.WrongLine number) reason handed is = subst Is (sym is) (record { value = value; stands = stands; reason = reason })
    shown_true (r.Missing kernel) reason handed is = subst Is (sym is) (record { value = value; stands = stands; reason = reason })
    shown_true (r.NoMemory error) reason handed is = subst Is (sym is) tt

-- a rule that has a line is shown by it, as its sort
pub rule_shown_as : (line : Option Refusal) (rule : CertifyRefusal) (shown : Refusal) → line ≡ Some shown → (handed : FileRefusal)
    → handed ≡ sorted rule shown → IsRuleShown line rule (k.File handed)
rule_shown_as line rule shown shows (f.Specification x) same = (shown, shows, ap k.File same)
rule_shown_as line rule shown shows (f.WrongHost x) same = (shown, shows, ap k.File same)
rule_shown_as line rule shown shows (f.Certification x) same = (shown, shows, ap k.File same)
rule_shown_as line rule shown shows (f.NoMemory error) same = tt
