-- The text of a certificate has no fault.
use Rattle.std.proofs.Common.{◌≡◌, ◌∷◌, [], inl, inr, ℕ, zero, suc, List, Some, slice_get, sym, subst, ◌∙◌}
use Rattle.std.proofs.lemmas.Option.{same_Some}
use Rattle.wb_base.specs.Grammar.{GrammarView}
use Rattle.wb_recheck_theory.specs.Certificates.{IsCertificate}
use Rattle.wb_recheck_theory.specs.Entries.{first_entry}
use Rattle.wb_recheck_theory.specs.declared.entry.Entry.{Entry}
use Rattle.wb_recheck_theory.specs.declared.line.Line.{Line}
use Rattle.wb_recheck_text.specs.Faults.{IsFirstFault, IsTextOf}
use Rattle.wb_recheck_text.specs.declared.certificate.Certificate.{Certificate}
use Rattle.wb_recheck_text.specs.declared.certificate.Head.{Head}
use Rattle.wb_recheck_entries.specs.Faults.{IsRightEntry, LacksEntry, nothing_listed, unlisted}
use Rattle.wb_recheck_entries.specs.Texts.{HasCertificate, IsFault, IsFaultOf, IsMissing, IsWrongLine}
use Rattle.wb_recheck_entries.specs.declared.fault.CertificateFault.{CertificateFault}
use Rattle.wb_recheck_entries.specs.declared.fault.CertificateFault.TheVariants as f
use Rattle.wb_recheck.specs.OneAnswer.{IsFaultMemory}

-- what the laws of texts say
abbrev pub HasNoFault : Type 0
HasNoFault = (text : List ℕ) (c : Certificate) (at : ℕ) → IsTextOf text c → ¬ IsFirstFault text at

abbrev pub HasOneCertificate : Type 0
HasOneCertificate = (text : List ℕ) (c other : Certificate) → IsTextOf text c → IsTextOf text other → c ≡ other

module _ (g : GrammarView) (lines : List Line) (entries : List Entry) (is : IsCertificate g lines entries) where
  -- each entry of a certificate is right
  right_entry : (n : ℕ) (e : Entry) → slice_get entries n ≡ Some e → IsRightEntry g lines entries n e
  right_entry zero e at = same_Some e (first_entry g) (sym at ∙ is.entry_first)
  right_entry (suc n) e at = is.entries_good n e at

  -- no line is wrong
  no_wrong_line : (n : ℕ) → IsWrongLine g lines entries n → ⊥
  no_wrong_line n (inl (m, first, same)) = first.wrong (is.lines_good m first.line first.at)
  no_wrong_line n (inr (good, (m, first, same))) = first.wrong (right_entry m first.entry first.at)

  none_first : (list : List Entry) → list ≡ [] → slice_get list 0 ≡ Some (first_entry g) → ⊥
  none_first [] none there = cc
  none_first (x ∷ list) none there = cc

  lacks_no_entry : (kernel : ℕ) → LacksEntry g lines entries kernel → ⊥
  lacks_no_entry kernel (nothing_listed none here) = none_first entries none is.entry_first
  lacks_no_entry kernel (unlisted item t m item' u listed follows missing) =
      missing (is.entries_listed kernel item t listed m item' u follows)

  -- nothing is missing
  nothing_missing : (kernel : ℕ) → IsMissing g lines entries kernel → ⊥
  nothing_missing kernel missing = elim missing.lacks [
    | inl move ↦ move.unlisted (is.moves_listed kernel move.symbol move.within move.moves)
    | inr entry ↦ lacks_no_entry kernel entry
  ]

module _ (no_fault : HasNoFault) (one : HasOneCertificate) (text : List ℕ) (names : Head → Type 0) (g : GrammarView)
    (has : HasCertificate text names g) where
  no_fault_of : (fault : CertificateFault) → IsFaultOf names g has.certificate fault → IsFaultMemory fault
  no_fault_of (f.Syntax place) is = is
  no_fault_of (f.WrongLine line) is = elim is [
    | inl second ↦ second.1 has.is.head
    | inr later ↦ no_wrong_line g has.certificate.lines has.certificate.entries has.is.lists line later.1
  ]
  no_fault_of (f.Missing kernel) is = nothing_missing g has.certificate.lines has.certificate.entries has.is.lists kernel is.1
  no_fault_of (f.NoMemory error) is = tt

  -- a text that is that of such a certificate has no fault
  pub fault_excluded : (fault : CertificateFault) → IsFault text names g fault → IsFaultMemory fault
  fault_excluded (f.Syntax place) is = no_fault text has.certificate place has.text_is is
  fault_excluded (f.WrongLine line) is =
      no_fault_of (f.WrongLine line) (subst (λ (c : Certificate). IsFaultOf names g c (f.WrongLine line))
      (one text is.certificate has.certificate is.text_is has.text_is) is.is)
  fault_excluded (f.Missing kernel) is =
      no_fault_of (f.Missing kernel) (subst (λ (c : Certificate). IsFaultOf names g c (f.Missing kernel))
      (one text is.certificate has.certificate is.text_is has.text_is) is.is)
  fault_excluded (f.NoMemory error) is = tt
