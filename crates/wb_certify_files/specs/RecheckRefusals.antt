-- Which refusals of contents and of the text of a certificate are true, by what the contents stand for.
use Rattle.std.specs.Prelude.{◌≡◌, ◌⊎◌, ℕ, List, Option, Some}
use Rattle.wb_certify_files.specs.declared.extension_refusal.FileRefusal.TheVariants as f
use Rattle.wb_recheck.specs.certify_refusal.CertifyRefusal.{CertifyRefusal}
use Rattle.wb_recheck.specs.OneAnswer.{IsOfKinds}
use Rattle.wb_recheck_entries.specs.declared.fault.CertificateFault.{CertificateFault}
use Rattle.wb_recheck_entries.specs.declared.fault.CertificateFault.TheVariants as t
use Rattle.wb_report.specs.declared.certificate_reason.CertificateReason.TheVariants as q
use Rattle.wb_report.specs.declared.refusal.Refusal.{Refusal}
use Rattle.wb_syntax_resolved.specs.declared.resolved.ResolvedParts.{ResolvedParts}
use Rattle.wb_certify_files.specs.declared.contents_refusal.ContentsRefusal.{ContentsRefusal}
use Rattle.wb_certify_files.specs.declared.contents_refusal.ContentsRefusal.TheVariants as k

-- what the contents stand for, by which rules a value is refused, for which faults of the text, and how a rule is shown
module _ (Stands : ResolvedParts → Type 0) (Rule : ResolvedParts → CertifyRefusal → Type 0)
    (Fault : ResolvedParts → CertificateFault → Type 0) (line_of : ResolvedParts → CertifyRefusal → Option Refusal) where
  -- the contents stand for a value that is refused by a rule, which meets this and is shown so
  pub record FailsRule (Meets : CertifyRefusal → Type 0) (shown : Refusal) : Type 0 where
    pub value : ResolvedParts
    pub stands : Stands value
    pub refusal : CertifyRefusal
    pub reason : Rule value refusal
    pub meets : Meets refusal
    pub shows : line_of value refusal ≡ Some shown

  -- the contents stand for a value of which the text is no certificate, for this reason
  pub record HasFault (fault : CertificateFault) : Type 0 where
    pub value : ResolvedParts
    pub stands : Stands value
    pub reason : Fault value fault

  -- the refusal is true, where contents that stand for no value are shown as `Unresolved` says, and `Other` says for which other host they
  -- are: a rule of what is written, of names or of kinds fails; or they are for another host; or another rule fails; or the text is no
  -- certificate of what they stand for. Its length is looked at elsewhere, and out of memory says nothing
  abbrev pub IsTrueRefusal : (Unresolved : Refusal → Type 0) → (Other : List ℕ → Type 0) → ContentsRefusal → Type 0
  IsTrueRefusal Unresolved Other (k.File (f.Specification shown)) = Unresolved shown ⊎ FailsRule IsOfKinds shown
  IsTrueRefusal Unresolved Other (k.File (f.WrongHost name)) = Other name
  IsTrueRefusal Unresolved Other (k.File (f.Certification shown)) = FailsRule (λ refusal. ¬ IsOfKinds refusal) shown
  IsTrueRefusal Unresolved Other (k.File (f.NoMemory error)) = Unit {0}
  IsTrueRefusal Unresolved Other (k.Certificate (q.Syntax place)) = HasFault (t.Syntax place)
  IsTrueRefusal Unresolved Other (k.Certificate (q.WrongLine number)) = HasFault (t.WrongLine number)
  IsTrueRefusal Unresolved Other (k.Certificate (q.Missing kernel)) = HasFault (t.Missing kernel)
  IsTrueRefusal Unresolved Other (k.Certificate q.TooLong) = ⊥

-- the refusal is that memory ran out
abbrev pub IsMemory : ContentsRefusal → Type 0
IsMemory (k.File (f.NoMemory error)) = Unit {0}
IsMemory other = ⊥
